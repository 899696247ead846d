-- Dialogues of all tokens written, by the exchange of those in flight.
use Rattle.std.proofs.Common.{◌≡◌, ℕ, zero, suc, ◌+◌, ◌≤◌, List, [], ◌∷◌, ◌++◌, false, Option, Some, None, length, drop}
use Rattle.std.proofs.Common.{refl, ap, ◌∙◌, sym, subst, arith, lit≤}
use Rattle.std.proofs.Math.Numerals.{add-one}
use Rattle.std.proofs.Math.Seq.{drop-length}
use Rattle.std.proofs.lemmas.List.{drop-append-le, length-append}
use Rattle.ws_telnet.specs.declared.token.Telnet.{Telnet}
use Rattle.ws_nego.specs.Dialogue.{Dialogue, new_dialogue, after_arrival, after_arrivals, after_station_gets}
use Rattle.ws_nego.specs.Dialogue.{after_host_gets, after_host_writes, IsAllArrived}
use Rattle.ws_nego.specs.Exchange.{Exchange, Move, ToStation, ToHost, new_exchange, after_token_moves, IsExchangeQuiet}
use Rattle.ws_nego.specs.Exchange.{TablesAgree, after_host_answers, after_station_takes, after_host_takes}
use Rattle.ws_nego.specs.Host.{HostState, host_answer}
use Rattle.ws_nego.specs.Options.{Answer}
use Rattle.ws_nego.specs.Station.{station_answer}
use Rattle.ws_nego.specs.declared.terminal.TerminalType.{TerminalType}
use Rattle.ws_nego.proofs.Stages.{agrees, at_most_twelve, not_refused}

-- what a dialogue has in flight
abbrev pub in_flight : Dialogue → Exchange
in_flight d = record {
  station = d.station;
  host = d.host;
  to_station = drop d.at_station d.to_station;
  to_host = drop d.at_host d.to_host;
  count = length d.to_station + length d.to_host;
  refused = d.refused;
}

-- no more has arrived than was written
pub record IsSound (d : Dialogue) : Type 0 where
  pub at_station : d.at_station ≤ length d.to_station
  pub at_host : d.at_host ≤ length d.to_host

pub next_one : {A : Type 0} (n : ℕ) (xs : List A) (x : A) (rest : List A) → drop n xs ≡ x ∷ rest
    → (drop (suc n) xs ≡ rest) × (suc n ≤ length xs)
next_one zero [] x rest e = cc
next_one zero (y ∷ ys) x rest e = (cc, omega arith)
next_one (suc n) [] x rest e = cc
next_one (suc n) (y ∷ ys) x rest e = let h = next_one n ys x rest e in (h.0, omega arith)

-- one step of the dialogue is one move of the exchange that it has in flight
follows_station : (d : Dialogue) (later : List Telnet) → drop d.at_station d.to_station ≡ later → IsSound d
    → in_flight (after_station_gets d later) ≡ after_station_takes (in_flight d) later
follows_station d [] e h = refl
follows_station d (token ∷ later) e h =
    let reply = (station_answer d.station token).reply in
    let here : drop (d.at_station + 1) d.to_station ≡ later =
    rw add-one (next_one d.at_station d.to_station token later e).0 in
    let there : drop d.at_host (d.to_host ++ reply) ≡ drop d.at_host d.to_host ++ reply =
    drop-append-le d.at_host d.to_host reply h.at_host in
    let sum : length d.to_station + length (d.to_host ++ reply) ≡ (length d.to_station + length d.to_host)
    + length reply = omega (arith, length-append d.to_host reply) in
    cc

sound_station : (d : Dialogue) (later : List Telnet) → drop d.at_station d.to_station ≡ later → IsSound d
    → IsSound (after_station_gets d later)
sound_station d [] e h = h
sound_station d (token ∷ later) e h =
    let reply = (station_answer d.station token).reply in
    record {
      at_station = omega (arith, (next_one d.at_station d.to_station token later e).1);
      at_host = omega (arith, h.at_host, length-append d.to_host reply);
    }

follows_writes : (d : Dialogue) (token : Telnet) (later : List Telnet) (answer : Option (Answer HostState))
    → drop d.at_host d.to_host ≡ token ∷ later → IsSound d → in_flight (after_host_writes d answer)
    ≡ after_host_answers (in_flight d) later answer
follows_writes d token later None e h = refl
follows_writes d token later (Some answer) e h =
    let here : drop (d.at_host + 1) d.to_host ≡ later = rw add-one (next_one d.at_host d.to_host token later e).0 in
    let there : drop d.at_station (d.to_station ++ answer.reply) ≡ drop d.at_station d.to_station ++ answer.reply =
    drop-append-le d.at_station d.to_station answer.reply h.at_station in
    let sum : length (d.to_station ++ answer.reply) + length d.to_host ≡ (length d.to_station + length d.to_host)
    + length answer.reply = omega (arith, length-append d.to_station answer.reply) in
    cc

follows_host : (d : Dialogue) (later : List Telnet) → drop d.at_host d.to_host ≡ later → IsSound d
    → in_flight (after_host_gets d later) ≡ after_host_takes (in_flight d) later
follows_host d [] e h = refl
follows_host d (token ∷ later) e h = follows_writes d token later (host_answer d.host token) e h

sound_writes : (d : Dialogue) (token : Telnet) (later : List Telnet) (answer : Option (Answer HostState))
    → drop d.at_host d.to_host ≡ token ∷ later → IsSound d → IsSound (after_host_writes d answer)
sound_writes d token later None e h = record { at_station = h.at_station; at_host = h.at_host }
sound_writes d token later (Some answer) e h = record {
  at_station = omega (arith, h.at_station, length-append d.to_station answer.reply);
  at_host = omega (arith, (next_one d.at_host d.to_host token later e).1);
}

sound_host : (d : Dialogue) (later : List Telnet) → drop d.at_host d.to_host ≡ later → IsSound d
    → IsSound (after_host_gets d later)
sound_host d [] e h = h
sound_host d (token ∷ later) e h = sound_writes d token later (host_answer d.host token) e h

-- after some arrivals a dialogue has in flight what the same moves make of the exchange that it had in flight
pub record Follows (ms : List Move) (d : Dialogue) : Type 0 where
  pub same : in_flight (after_arrivals ms d) ≡ after_token_moves ms (in_flight d)
  pub sound : IsSound (after_arrivals ms d)

pub follows : (ms : List Move) (d : Dialogue) → IsSound d → Follows ms d
follows [] d h = record { same = refl; sound = h }
follows (ToStation ∷ ms) d h =
    let later = drop d.at_station d.to_station in
    let rest = follows ms (after_arrival ToStation d) (sound_station d later refl h) in
    record { same = rest.same ∙ ap (after_token_moves ms) (follows_station d later refl h); sound = rest.sound }
follows (ToHost ∷ ms) d h =
    let later = drop d.at_host d.to_host in
    let rest = follows ms (after_arrival ToHost d) (sound_host d later refl h) in
    record { same = rest.same ∙ ap (after_token_moves ms) (follows_host d later refl h); sound = rest.sound }

pub from_start : (t : TerminalType) (ms : List Move) → Follows ms (new_dialogue t)
from_start t ms = follows ms (new_dialogue t) (record { at_station = lit≤ tt; at_host = lit≤ tt })

-- the exchange of a dialogue, and what is known of it
module _ (t : TerminalType) (ms : List Move) where
  exchange : in_flight (after_arrivals ms (new_dialogue t)) ≡ after_token_moves ms (new_exchange t)
  exchange = (from_start t ms).same

  pub dialogue_agrees : IsAllArrived (after_arrivals ms (new_dialogue t))
      → TablesAgree (after_arrivals ms (new_dialogue t)).station (after_arrivals ms (new_dialogue t)).host
  dialogue_agrees h =
      let d = after_arrivals ms (new_dialogue t) in
      let quiet : IsExchangeQuiet (in_flight d) = record {
        to_station = ap (λ n. drop n d.to_station) h.at_station ∙ drop-length d.to_station;
        to_host = ap (λ n. drop n d.to_host) h.at_host ∙ drop-length d.to_host;
      } in
      let P : Exchange → Type 0 = λ e. IsExchangeQuiet e → TablesAgree e.station e.host in
      subst P (sym exchange) (agrees t ms) quiet

  pub dialogue_twelve : length (after_arrivals ms (new_dialogue t)).to_station
      + length (after_arrivals ms (new_dialogue t)).to_host ≤ 12
  dialogue_twelve = subst (λ (e : Exchange). e.count ≤ 12) (sym exchange) (at_most_twelve t ms)

  pub dialogue_not_refused : (after_arrivals ms (new_dialogue t)).refused ≡ false
  dialogue_not_refused = subst (λ (e : Exchange). e.refused ≡ false) (sym exchange) (not_refused t ms)
