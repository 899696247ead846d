-- The bytes that a row has which shows a text.

use Rattle.std.proofs.lemmas.List.Edits.{get_or-between, length-between}
use Rattle.std.proofs.lemmas.List.FromFn.{get_or-map-range_with_len, length-map-range_with_len}
use Rattle.ws_printing.proofs.Common as C
use C.{Contains-append_left, Contains-append_right, encode_utf8, Contains, range_with_len, encode_utf8_all, HasSubslice}
use C.{◌≡◌, ℕ, ◌+◌, ◌-◌, ◌*◌, ◌<◌, ◌≤◌, List, [], ◌∷◌, ◌++◌, length, map, slice_index, get_or, inl, inr, refl, sym, ap}
use C.{◌∙◌, subst, arith, append-nil, get_or-map, get_or_default, length-map, Contains-get_or, Contains-append_cases}
use C.{inside_one, CodePage, attribute_at, shown_on, IsNeededBy, text_of_shown}
use Rattle.ws_printing.specs.ReportLines.{row_bytes}
use Rattle.ws_printing.specs.ShownOnPage.{row_on_page}
use Rattle.ws_printing.proofs.PageChars.{shown_byte}

-- among the bytes of a character is one below 80 only if it is the character
ascii_in : (c b : ℕ) → b < 0x80 → Contains (encode_utf8 c) b → c ≡ b
ascii_in c b small h =
    let here : get_or (encode_utf8 c) h.0 0 ≡ b = get_or_default (encode_utf8 c) h.0 0 b h.1 ∙ h.2 in
    inside_one c [] (encode_utf8 c) h.0 (sym (append-nil (encode_utf8 c))) h.1 (omega (arith, small, here)) ∙ here

-- a character below 80 whose byte a text has is in the text
in_text : (cs : List ℕ) (b : ℕ) → b < 0x80 → Contains (encode_utf8_all cs) b → Contains cs b
in_text [] b small h = absurd (omega (arith, h.1))
in_text (c ∷ cs) b small h = elim (Contains-append_cases (encode_utf8 c) (encode_utf8_all cs) b h) [
  | inl here ↦ (0, omega arith, ascii_in c b small here)
  | inr later ↦ Contains-append_right (c ∷ []) cs b (in_text cs b small later)
]

-- the cell of a row that shows a character
cell_of : (page : CodePage) (cells : List ℕ) (row c : ℕ)
    → Contains (map (λ s. s.character) (row_on_page page cells row)) c
    → (k : ℕ) × (k < 80) × ((shown_on page cells ((row - 1) * 80 + k)).character ≡ c)
unfolding row_on_page
cell_of page cells row c h =
    let first = (row - 1) * 80 in
    let shown = map (shown_on page cells) (range_with_len first 80) in
    let inside : h.0 < 80 = omega (
      arith,
      h.1,
      length-map shown (λ s. s.character),
      length-map-range_with_len (shown_on page cells) first 80,
    ) in
    let d = shown_on page cells first in (
      h.0,
      inside,
      ap (λ s. s.character)
          (sym (get_or-map-range_with_len (shown_on page cells) first 80 h.0 (first + h.0) d inside refl))
          ∙ sym (get_or-map (λ s. s.character) shown h.0 d c (omega (arith, h.1, length-map shown (λ s. s.character))))
          ∙ h.2,
    )

-- a row that shows a text has each byte that it needs
pub needed_there : (page : CodePage) (cells text : List ℕ) (row byte : ℕ) → 1 ≤ row → row ≤ 24 → length cells ≡ 1920
    → IsNeededBy page text byte → HasSubslice (text_of_shown (row_on_page page cells row)) text
    → Contains (row_bytes cells row) byte
needed_there page cells text row byte low high whole needed found =
    let c = needed.0 in
    let only = needed.2 in
    let shown = row_on_page page cells row in
    let there : Contains (text_of_shown shown) c = rw found.2 (Contains-append_right found.0 (text ++ found.1) c (Contains-append_left text found.1 c needed.1)) in
    let at = cell_of page cells row c (in_text (map (λ s. s.character) shown) c only.1 there) in
    let first = (row - 1) * 80 in
    let is : slice_index cells (first + at.0) ≡ byte = shown_byte page (attribute_at cells (first + at.0))
    (slice_index cells (first + at.0)) c byte only at.2 in
    let inside : at.0 < length (row_bytes cells row) =
    omega (arith, at.1, low, high, whole, length-between cells first (first + 80) (omega (arith, low, high, whole))) in
    subst (Contains (row_bytes cells row))
    (get_or-between cells first (first + 80) at.0 0 (omega (arith, at.1)) ∙ is)
    (Contains-get_or (row_bytes cells row) at.0 0 inside)
