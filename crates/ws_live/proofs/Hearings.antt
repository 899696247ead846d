-- What is heard of an end that tells things one after another, up to one that is awaited.

use Rattle.std.specs.List.{flat_map}
use Rattle.std.specs.Prelude.{Bool, Err, None, Result, Some, length}
use Rattle.std.proofs.Common.{◌≡◌, ℕ, ◌+◌, List, [], ◌∷◌, ◌++◌, ◌⊎◌, true, false, refl, append_assoc, arith}
use Rattle.std.proofs.lemmas.List.{append-nil, flat_map_more, length-append}
use Rattle.ws_code.specs.Device.{Writer, most_reads}
use Rattle.ws_code.specs.declared.fault.Fault.{Fault}
use Rattle.ws_code.specs.declared.fault.Fault.TheVariants as fault
use Rattle.ws_end.specs.Behaviour.{Behaviour}
use Rattle.ws_end.specs.attached.Attachments.{AttachedParts}
use Rattle.ws_text.specs.Printing.{Prints}
use Rattle.ws_text.specs.declared.output.Output.{Output}
use Rattle.ws_text.proofs.Prints.{prints_both, prints_none, prints_same}
use Rattle.ws_live.specs.declared.live.Closing.{Closing}
use Rattle.ws_live.specs.live.Hearing.{HaveToldBefore, HearsOne, HearsUntil}
use Rattle.ws_live.specs.live.LiveText.{line_result}
use Rattle.ws_live.specs.live.Watches.{WatchedDevices}

-- so many things were told and printed, none of which is what is awaited, and go before those that are told then
pub record HaveCome {E Q T S K O : Type 0} (behaviour : Behaviour E Q T) (text_of : T → List ℕ)
    (on : WatchedDevices S K) (meets : T → Bool) (writer : Writer O) (from : AttachedParts E S K) (count : ℕ)
    (to : AttachedParts E S K) (old new : O) (before after : Output) : Type 0 where
  pub told : List T
  pub leads : (more : List T) (end : AttachedParts E S K) → HaveToldBefore behaviour on.devices meets to more end
      → HaveToldBefore behaviour on.devices meets from (told ++ more) end
  pub counted : length told ≡ count
  pub printed : Prints writer old new before after (flat_map text_of told)

-- none yet
pub none_come : {E Q T S K O : Type 0} {behaviour : Behaviour E Q T} {text_of : T → List ℕ} {on : WatchedDevices S K}
    {meets : T → Bool} {writer : Writer O} {from : AttachedParts E S K} {old : O} {before : Output}
    → HaveCome behaviour text_of on meets writer from 0 from old old before before
none_come {writer = writer} {old = old} {before = before} =
    record { told = []; leads = λ more end h. h; counted = refl; printed = prints_none writer old before }

module _ {E Q T S K O : Type 0} {behaviour : Behaviour E Q T} {text_of : T → List ℕ} {on : WatchedDevices S K}
    {meets : T → Bool} {writer : Writer O} {from mid : AttachedParts E S K} {count : ℕ} {a b c : O} {i j k : Output}
    (h : HaveCome behaviour text_of on meets writer from count mid a b i j) {to : AttachedParts E S K}
    {outcome : Result Closing Fault} where
  -- one more
  pub one_came : (one : T) → (text : List ℕ) × HearsOne behaviour text_of on mid (Some one) (line_result outcome text) to
      × Prints writer b c j k text → meets one ≡ false
      → HaveCome behaviour text_of on meets writer from (count + 1) to a c i k
  one_came one heard other = record {
    told = h.told ++ one ∷ [];
    leads = λ more end rest. rw append_assoc (h.leads (one ∷ more) end (to, heard.1.0, other, rest));
    counted = omega (arith, h.counted, length-append h.told (one ∷ []));
    printed = prints_same (flat_map_more text_of [] h.told one)
        (prints_both h.printed (prints_same heard.1.2 heard.2));
  }

  -- it ends so
  pub hears : (last : List ℕ)
      → ((one : T) × (meets one ≡ true) × HearsOne behaviour text_of on mid (Some one) (line_result outcome last) to)
      ⊎ (HearsOne behaviour text_of on mid None (line_result outcome last) to
      ⊎ ((length h.told ≡ most_reads) × (to ≡ mid) × (outcome ≡ Err fault.Read) × (last ≡ [])))
      → Prints writer b c j k last
      → (text : List ℕ) × HearsUntil behaviour text_of on meets from (line_result outcome text) to
      × Prints writer a c i k text
  hears last ends then = (
    flat_map text_of h.told ++ last,
    record {
      told = h.told;
      mid = mid;
      before = rw append-nil at (h.leads [] mid refl);
      last = last;
      ends = ends;
      all = refl;
    },
    prints_both h.printed then,
  )
