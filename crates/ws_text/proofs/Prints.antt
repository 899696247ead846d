-- A text that goes out in parts.

use Rattle.ws_text.proofs.Common.{◌∙◌, ap, ◌≡◌, arith, refl, sym, [], length, ◌∷◌, List, ℕ, ◌++◌, subst, take, ◌+◌, ◌<◌}
use Rattle.ws_text.proofs.Common.{codes, false, true, get_or, append_assoc, append-nil, ◌==◌, ◌/◌, slice_index, ◌%◌}
use Rattle.ws_text.proofs.Common.{length-append, false≢true, take_more, encode_upper, hex_behind_blank, Prints, Output}
use Rattle.ws_text.proofs.Common.{Open}
use Rattle.std.proofs.lemmas.List.{take-append-le}
use Rattle.hex.specs.Hex.{encode_with}
use Rattle.ws_code.specs.Device.{Writer, FailedAfter, FailedWithin}
use Rattle.ws_code.proofs.DeviceLaws.{went_out_none}
use Rattle.ws_text.specs.Printing.{IsOut}
use Rattle.ws_text.proofs.LineEnds.{filled}

pub fails_on : {S : Type 0} (writer : Writer S) (from to : S) (text more : List ℕ)
    → FailedWithin writer from to text → FailedWithin writer from to (text ++ more)
fails_on writer from to text more f =
    record {
      count = f.count;
      within = omega (arith, f.within, length-append text more);
      failed = subst (FailedAfter writer from to)
          (sym (take-append-le f.count text more (omega (arith, f.within)))) f.failed;
    }

pub prints_none : {S : Type 0} (writer : Writer S) (s : S) (o : Output) → Prints writer s s o o []
prints_none writer s o = record { on = λ from text h. subst (IsOut writer from s o) (sym (append-nil text)) h }

-- two parts
pub prints_both : {S : Type 0} {writer : Writer S} {old mid new : S} {before between after : Output}
    {xs ys : List ℕ} → Prints writer old mid before between xs → Prints writer mid new between after ys
    → Prints writer old new before after (xs ++ ys)
prints_both {S} {writer} {old} {mid} {new} {before} {between} {after} {xs} {ys} p q = record {
  on = λ from text h. subst (IsOut writer from new after) (append_assoc text xs ys)
      (q.on from (text ++ xs) (p.on from text h));
}

-- the same text by another name
pub prints_same : {S : Type 0} {writer : Writer S} {old new : S} {before after : Output}
    {xs ys : List ℕ} → xs ≡ ys → Prints writer old new before after xs
    → Prints writer old new before after ys
prints_same {S} {writer} {old} {new} {before} {after} {xs} {ys} e p = subst (Prints writer old new before after) e p

-- a text from its start
pub whole_out : {S : Type 0} {writer : Writer S} {old new : S} {after : Output} {xs : List ℕ}
    → Prints writer old new Open after xs → IsOut writer old new after xs
whole_out {S} {writer} {old} {new} {after} {xs} p = p.on old [] (went_out_none writer old)

pub encode_append : (t xs ys : List ℕ) → encode_with t (xs ++ ys) ≡ encode_with t xs ++ encode_with t ys
unfolding encode_with
encode_append t [] ys = refl
encode_append t (b ∷ xs) ys = ap (λ z. slice_index t (b / 16) ∷ slice_index t (b % 16) ∷ z) (encode_append t xs ys)

encode_one : (t : List ℕ) (b : ℕ) → encode_with t (b ∷ []) ≡ slice_index t (b / 16) ∷ slice_index t (b % 16) ∷ []
unfolding encode_with
encode_one t b = refl

pub encode_none : (t : List ℕ) → [] ≡ encode_with t []
unfolding encode_with
encode_none t = refl

pub encode_more : (t bytes : List ℕ) (i high low : ℕ) → i < length bytes → high ≡ slice_index t (get_or bytes i 0 / 16)
    → low ≡ slice_index t (get_or bytes i 0 % 16) → encode_with t (take i bytes) ++ high ∷ low ∷ [] ≡ encode_with t
    (take (i + 1) bytes)
encode_more t bytes i high low k h l =
    let digits : high ∷ low ∷ [] ≡ encode_with t (get_or bytes i 0 ∷ []) = ap (λ z. z ∷ low ∷ []) h
    ∙ ap (λ z. slice_index t (get_or bytes i 0 / 16) ∷ z ∷ []) l ∙ sym (encode_one t (get_or bytes i 0)) in
    ap (λ z. encode_with t (take i bytes) ++ z) digits ∙ sym (encode_append t (take i bytes) (get_or bytes i 0 ∷ []))
    ∙ ap (encode_with t) (sym (take_more bytes i 0 k))

pub hex_of_none : (bytes : List ℕ) → (length bytes == 0) ≡ true → [] ≡ hex_behind_blank bytes
hex_of_none [] e = refl
hex_of_none (b ∷ bytes) e = absurd (false≢true (sym (filled (b ∷ bytes) (omega arith)) ∙ e))

pub hex_of_some : (bytes : List ℕ) → (length bytes == 0) ≡ false → codes " " ++ encode_upper bytes
    ≡ hex_behind_blank bytes
hex_of_some [] e = absurd (false≢true (sym e))
hex_of_some (b ∷ bytes) e = refl

pub ruleset hex_or_none = (prints_same, prints_both, hex_of_none, hex_of_some)
