-- What a host that takes any record makes of a token.

use Rattle.std.proofs.Common.{◌≡◌, ℕ, ◌+◌, ◌<◌, ◌≤◌, ◌^◌, List, [], ◌∷◌, ◌++◌, Option, Some, None, Ok, true, false, map}
use Rattle.std.proofs.Common.{length, nat_lt, refl, sym, ap, ◌∙◌, arith}
use Rattle.std.proofs.lemmas.Bool.Decides.{nat_tests}
use Rattle.ws_code.specs.Code.{spelling_of}
use Rattle.ws_telnet.specs.Token.{telnet_spelling}
use Rattle.ws_telnet.specs.declared.token.Telnet.{Telnet}
use Rattle.ws_nego.specs.Host.{host_allows_records}
use Rattle.ws_nego.specs.Options.{Answer, AnswersWith, telnet_bytes}
use Rattle.ws_record.specs.Encode.{plain_spelling}
use Rattle.ws_record.specs.Grammar.{record_bytes}
use Rattle.ws_record.specs.RawBody.{raw_rules}
use Rattle.ws_record.specs.declared.record.Item.{Item}
use Rattle.ws_record.specs.declared.record.Item.TheVariants.{Telnet as TelnetItem}
use Rattle.ws_record.specs.declared.record.Record.{Record}
use Rattle.ws_record.proofs.Headers.{header_length}
use Rattle.ws_end.specs.declared.host_end.send_fault.SendFault.TheVariants.{TooBig}
use Rattle.ws_end.specs.driver.Reacting.{IsReaction}
use Rattle.ws_any_host.specs.AnyOptions.{Negotiated}
use Rattle.ws_any_host.specs.AnyEndState.{any_negotiates, any_reacting, any_ready, send_fault}
use Rattle.ws_any_host.specs.declared.any_event.AnyEvent.{AnyEvent}

any_tokens : (ts : List Telnet) → plain_spelling raw_rules (map TelnetItem ts) ≡ telnet_bytes ts
any_tokens [] = refl
any_tokens (t ∷ ts) = ap (λ z. telnet_spelling t ++ z) (any_tokens ts)

-- a token that isn't refused
pub negotiated : (old options : Negotiated) (items : List (Item ℕ)) (answer : Option (Answer Negotiated))
    (reply : List ℕ) (event : Option AnyEvent) → AnswersWith answer options reply
    → event ≡ any_ready (host_allows_records old.host) options
    → IsReaction any_reacting options items (λ output. output) (any_negotiates old answer)
    (Ok (record { reply = reply; event = event }))
negotiated old options items None reply event a e = absurd a
negotiated old options items (Some answer) reply event a e = (
  answer.after,
  record { items = map TelnetItem answer.reply; event = any_ready (host_allows_records old.host) answer.after },
  refl,
  a.1 ∙ sym (any_tokens answer.reply),
  e ∙ ap (any_ready (host_allows_records old.host)) a.0,
  a.0,
)

-- What is sent.

-- raw bytes spell themselves
pub raw_spelled : (bytes : List ℕ) → spelling_of raw_rules bytes ≡ bytes
raw_spelled [] = refl
raw_spelled (b ∷ bytes) = ap (λ z. b ∷ z) (raw_spelled bytes)

module _ (n : Negotiated) (r : Record ℕ) (allowed : host_allows_records n.host ≡ true) where
  size : length (record_bytes raw_rules r) ≡ 10 + length r.body
  size = header_length (10 + length (spelling_of raw_rules r.body)) r.flags r.opcode (spelling_of raw_rules r.body)
      ∙ ap (λ z. 10 + length z) (raw_spelled r.body)

  pub fits : length r.body ≤ 65525 → send_fault n r ≡ None
  fits few =
      let small : nat_lt (length (record_bytes raw_rules r)) (2 ^ 16) ≡ true = grind (arith, nat_tests, size, few) in
      rw (allowed, small) refl

  pub too_big : 65525 < length r.body → send_fault n r ≡ Some TooBig
  too_big many =
      let big : nat_lt (length (record_bytes raw_rules r)) (2 ^ 16) ≡ false = grind (arith, nat_tests, size, many) in
      rw (allowed, big) refl
