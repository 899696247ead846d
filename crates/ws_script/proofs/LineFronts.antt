-- The lines of a front of a text, and those after it.

use Rattle.std.specs.List.{slice_split, onto_first}
use Rattle.std.specs.Str.Lines.{lines, lines_of_parts, strip_carriage_return}
use Rattle.std.proofs.Common.{◌≡◌, ◌⊎◌, ℕ, List, [], ◌∷◌, ◌++◌, ◌==◌, Bool, true, false, cond, map, inl, inr, refl, sym}
use Rattle.std.proofs.Common.{ap, ◌∙◌, append_assoc}
use Rattle.std.proofs.lemmas.List.{append_cancel_right, append-nil}
use Rattle.ws_text.specs.FirstLine.{IsBehindLines}
use Rattle.ws_text.proofs.LineEnds.{split_some}

split_cut : (a b : List ℕ) → slice_split (λ b. b == 10) (a ++ 10 ∷ b)
    ≡ slice_split (λ b. b == 10) a ++ slice_split (λ b. b == 10) b
split_cut [] b = refl
split_cut (x ∷ a) b = go (split_cut a b) (x == 10)
  where
    joined : (zs more : List (List ℕ)) → (y : List ℕ) × (rest : List (List ℕ)) × (zs ≡ y ∷ rest)
        → onto_first x (zs ++ more) ≡ onto_first x zs ++ more
    joined zs more s = ap (λ z. onto_first x (z ++ more)) s.2 ∙ sym (ap (λ z. onto_first x z ++ more) s.2)

    go : slice_split (λ b. b == 10) (a ++ 10 ∷ b) ≡ slice_split (λ b. b == 10) a ++ slice_split (λ b. b == 10) b
        → (t : Bool) → cond t ([] ∷ slice_split (λ b. b == 10) (a ++ 10 ∷ b))
        (onto_first x (slice_split (λ b. b == 10) (a ++ 10 ∷ b)))
        ≡ cond t ([] ∷ slice_split (λ b. b == 10) a) (onto_first x (slice_split (λ b. b == 10) a))
        ++ slice_split (λ b. b == 10) b
    go same true = ap (λ z. [] ∷ z) same
    go same false = ap (λ z. onto_first x z) same
        ∙ joined (slice_split (λ b. b == 10) a) (slice_split (λ b. b == 10) b) (split_some (λ b. b == 10) a)

parts_cut : (xs : List (List ℕ)) (y : List ℕ) (more : List (List ℕ)) → lines_of_parts (xs ++ y ∷ more)
    ≡ map strip_carriage_return xs ++ lines_of_parts (y ∷ more)
parts_cut [] y more = refl
parts_cut (x ∷ []) y more = refl
parts_cut (x ∷ z ∷ xs) y more = ap (λ t. strip_carriage_return x ∷ t) (parts_cut (z ∷ xs) y more)

ended_lines : (a b : List ℕ) → lines (a ++ 10 ∷ b)
    ≡ map strip_carriage_return (slice_split (λ b. b == 10) a) ++ lines b
ended_lines a b =
    let behind = split_some (λ b. b == 10) b in
    let all = slice_split (λ b. b == 10) a in
    ap lines_of_parts (split_cut a b ∙ ap (λ z. all ++ z) behind.2) ∙ parts_cut all behind.0 behind.1
    ∙ ap (λ z. map strip_carriage_return all ++ lines_of_parts z) (sym behind.2)

lines_cut : (a b : List ℕ) → lines (a ++ 10 ∷ b) ≡ lines (a ++ 10 ∷ []) ++ lines b
lines_cut a b = ended_lines a b ∙ ap (λ z. z ++ lines b) (sym (ended_lines a [] ∙ append-nil _))

-- the lines of a front, and those after it
front_lines : (front rest more : List ℕ) → (front ≡ []) ⊎ ((rest ≡ []) ⊎ ((a : List ℕ) × (front ≡ a ++ 10 ∷ [])))
    → (rest ≡ [] → more ≡ []) → lines (front ++ more) ≡ lines front ++ lines more
front_lines front rest more (inl e) h = ap (λ z. lines (z ++ more)) e ∙ ap (λ z. lines z ++ lines more) (sym e)
front_lines front rest more (inr (inl e)) h =
    ap (λ z. lines (front ++ z)) (h e) ∙ ap lines (append-nil front) ∙ sym (append-nil (lines front))
    ∙ ap (λ z. lines front ++ lines z) (sym (h e))
front_lines front rest more (inr (inr c)) h =
    ap (λ z. lines (z ++ more)) c.1 ∙ ap lines (append_assoc c.0 (10 ∷ []) more) ∙ lines_cut c.0 more
    ∙ ap (λ z. lines z ++ lines more) (sym c.1)

pub lines_behind : (text rest : List ℕ) (h : IsBehindLines text rest) → lines text ≡ lines h.front ++ lines rest
lines_behind text rest h = ap lines h.split ∙ front_lines h.front rest rest h.ended (λ e. e)

-- one line more
pub behind_more : (text rest behind line : List ℕ) → (h : IsBehindLines text rest) → lines rest ≡ line ∷ lines behind
    → IsBehindLines rest behind → (k : IsBehindLines text behind) × (lines k.front ≡ lines h.front ++ line ∷ [])
behind_more text rest behind line h e k =
    let some : rest ≡ [] → k.front ≡ [] = λ none. cc (sym (ap lines none) ∙ e) in
    let one : lines k.front ≡ line ∷ [] =
    append_cancel_right (lines k.front) (line ∷ []) (lines behind) (sym (lines_behind rest behind k) ∙ e) in (
      record {
        front = h.front ++ k.front;
        split = h.split ∙ ap (λ z. h.front ++ z) k.split ∙ sym (append_assoc h.front k.front behind);
        ended = go k.ended;
      },
      front_lines h.front rest k.front h.ended some ∙ ap (λ z. lines h.front ++ z) one,
    )
  where
    go : (k.front ≡ []) ⊎ ((behind ≡ []) ⊎ ((a : List ℕ) × (k.front ≡ a ++ 10 ∷ [])))
        → (h.front ++ k.front ≡ []) ⊎ ((behind ≡ []) ⊎ ((a : List ℕ) × (h.front ++ k.front ≡ a ++ 10 ∷ [])))
    go (inl none) = absurd (cc (sym (ap lines none) ∙ append_cancel_right (lines k.front) (line ∷ []) (lines behind)
        (sym (lines_behind rest behind k) ∙ e)))
    go (inr (inl all)) = inr (inl all)
    go (inr (inr c)) =
        inr (inr (h.front ++ c.0, ap (λ z. h.front ++ z) c.1 ∙ sym (append_assoc h.front c.0 (10 ∷ []))))
