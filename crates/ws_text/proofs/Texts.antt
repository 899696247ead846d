-- Texts in parts.

use Rattle.ws_text.proofs.Common.{◌∙◌, ap, ◌≡◌, arith, refl, sym, [], length, ◌∷◌, List, ℕ, ◌++◌, take, ◌+◌, ◌<◌, drop}
use Rattle.ws_text.proofs.Common.{get_or, append_assoc, append-nil, flat_map, ◌^◌, ◌/◌, ◌%◌, Option, None, Some}
use Rattle.ws_text.proofs.Common.{flat_map-append, take_more, encode_upper, upper_digits, UnitRun, Bytes, Other}
use Rattle.ws_text.proofs.Common.{RunName}
use Rattle.std.proofs.lemmas.List.{drop_more}
use Rattle.ws_record.specs.Grammar.{two_bytes}
use Rattle.ws_text.specs.Wording.{lead, run_line, byte_run, runs_of, unit_text, with_byte, with_unit}
use Rattle.ws_text.specs.declared.lined.RunName.TheVariants.{Cells, Fields, Reply}
use Rattle.ws_text.proofs.Prints.{encode_append}

pub flat_map_more : {X : Type 0} (f : X → List ℕ) (xs : List X) (i : ℕ) (d : X) → i < length xs
    → flat_map f (take (i + 1) xs) ≡ flat_map f (take i xs) ++ f (get_or xs i d)
flat_map_more f xs i d k = ap (flat_map f) (take_more xs i d k) ∙ flat_map-append f (take i xs) (get_or xs i d ∷ [])
    ∙ ap (λ z. flat_map f (take i xs) ++ z) (append-nil (f (get_or xs i d)))

pub two_bytes_of : (w : ℕ) → w < 2 ^ 16 → w / 256 % 256 ∷ w % 256 ∷ [] ≡ two_bytes w
two_bytes_of w h = ap (λ n. n ∷ w % 256 ∷ []) (omega arith)

-- The lines of units, one unit after another.

-- a byte begins a run
begins_run : (before : Option RunName) (n : RunName) (byte : ℕ) (bytes rest : List ℕ)
    → (lead before n ++ encode_upper (byte ∷ [])) ++ (encode_upper bytes ++ rest)
    ≡ lead before n ++ (encode_upper (byte ∷ bytes) ++ rest)
begins_run before n byte bytes rest =
    let one = encode_upper (byte ∷ []) in
    append_assoc (lead before n) one (encode_upper bytes ++ rest)
    ∙ ap (λ z. lead before n ++ z) (sym (append_assoc one (encode_upper bytes) rest)
    ∙ ap (λ z. z ++ rest) (sym (encode_append upper_digits (byte ∷ []) bytes)))

module _ {U : Type 0} (line : U → List ℕ) where
  abbrev lines_of : List (UnitRun U) → List ℕ
  lines_of runs = flat_map (run_line line) runs

  -- what runs add behind a byte of a kind: a first run of this kind goes on with its line
  abbrev pub runs_behind : Option RunName → List (UnitRun U) → List ℕ
  runs_behind before [] = []
  runs_behind before (Bytes n bytes ∷ runs) = lead before n ++ (encode_upper bytes ++ lines_of runs)
  runs_behind before (Other u ∷ runs) = line u ++ lines_of runs

  pub none_behind : (runs : List (UnitRun U)) → runs_behind None runs ≡ lines_of runs
  none_behind [] = refl
  none_behind (Bytes n bytes ∷ runs) = sym (append_assoc (lead None n) (encode_upper bytes) (lines_of runs))
  none_behind (Other u ∷ runs) = refl

  byte_behind : (before : Option RunName) (n : RunName) (b : ℕ) (runs : List (UnitRun U))
      → (lead before n ++ encode_upper (b ∷ [])) ++ runs_behind (Some n) runs ≡ runs_behind before (with_byte n b runs)
  byte_behind before Cells b (Bytes Cells bytes ∷ runs) = begins_run before Cells b bytes (lines_of runs)
  byte_behind before Fields b (Bytes Fields bytes ∷ runs) = begins_run before Fields b bytes (lines_of runs)
  byte_behind before Reply b (Bytes Reply bytes ∷ runs) =
      append_assoc (lead before Reply) (encode_upper (b ∷ [])) (lines_of (Bytes Reply bytes ∷ runs))
  byte_behind before n b runs = append_assoc (lead before n) (encode_upper (b ∷ [])) (lines_of runs)

  unit_behind : (before : Option RunName) (o : Option (RunName × ℕ)) (u : U) (runs : List (UnitRun U))
      → unit_text before o (line u) ++ runs_behind (byte_run o) runs ≡ runs_behind before (with_unit o u runs)
  unit_behind before (Some (n, b)) u runs = byte_behind before n b runs
  unit_behind before None u runs = ap (λ z. line u ++ z) (none_behind runs)

pub units_more : {U : Type 0} (byte_of : U → Option (RunName × ℕ)) (line : U → List ℕ) (us : List U) (i : ℕ)
    (before : Option RunName) (u : U) (printed : List ℕ) {all : List ℕ} → i < length us → u ≡ get_or us i u
    → all ≡ printed ++ runs_behind line before (runs_of byte_of (drop i us))
    → all ≡ (printed ++ unit_text before (byte_of u) (line u))
    ++ runs_behind line (byte_run (byte_of u)) (runs_of byte_of (drop (i + 1) us))
units_more byte_of line us i before u printed h is e =
    let cut : drop i us ≡ u ∷ drop (i + 1) us = drop_more us i u h ∙ ap (λ z. z ∷ drop (i + 1) us) (sym is) in
    e ∙ ap (λ z. printed ++ runs_behind line before (runs_of byte_of z)) cut
    ∙ ap (λ z. printed ++ z) (sym (unit_behind line before (byte_of u) u (runs_of byte_of (drop (i + 1) us))))
    ∙ sym (append_assoc printed (unit_text before (byte_of u) (line u)) _)
