-- How long an image is, and what it tells of the error line and of the switches.
use Rattle.std.specs.List.{flat_map, AllByRecursion}
use Rattle.std.specs.Option.{option_or, is_some}
use Rattle.std.proofs.Common.{◌≡◌, ℕ, ◌+◌, ◌*◌, ◌≤◌, List, [], ◌∷◌, ◌++◌, Bool, true, false, Option, Some, None, length}
use Rattle.std.proofs.Common.{refl, ap, ◌∙◌, arith, map, if◌then◌else◌, unwrap_or, length-append, ◌&&◌}
use Rattle.std.proofs.lemmas.Grind.{flat_map-append}
use Rattle.ws_code.specs.Code.{spelling_of}
use Rattle.ws_stream.specs.Elements.{element_rules, is_command, spelling}
use Rattle.ws_stream.specs.declared.element.Element.{Element}
use Rattle.ws_stream.specs.declared.element.Element.TheVariants.{ClearUnit, Write, Soh, Sba, Mc, Put}
use Rattle.ws_screen.specs.Bodies.{after_element, after_elements, after_end}
use Rattle.ws_screen.specs.Events.{History, did, ended, nearest}
use Rattle.ws_screen.specs.Given.{ends_of}
use Rattle.ws_screen.specs.ScreenParts.{IsLegal, ScreenParts}
use Rattle.ws_screen.specs.Writes.{open_write}
use Rattle.ws_screen.specs.declared.field.Field.{Field}
use Rattle.ws_screen.specs.declared.open_write.OpenWrite.{OpenWrite}
use Rattle.ws_screen.specs.declared.read_kind.ReadKind.{ReadKind}
use Rattle.ws_screen.specs.declared.read_kind.ReadKind.TheVariants.{Input, Mdt, MdtAlternate}
use Rattle.ws_extended.specs.ErrorLine.{error_row, row_of, sets_error_row}
use Rattle.ws_extended.specs.Image.{field_image, start_of_header_bytes, home_image, image, lights, read_image}

-- ITS LENGTH

abbrev size : List Element → ℕ
size es = length (spelling_of element_rules es)

sizes : (es fs : List Element) → size (es ++ fs) ≡ size es + size fs
sizes es fs = ap (λ (l : List ℕ). length l) (flat_map-append spelling es fs)
    ∙ length-append (flat_map spelling es) (flat_map spelling fs)

puts_size : (xs : List ℕ) → size (map Put xs) ≡ length xs
puts_size [] = refl
puts_size (x ∷ xs) = omega (arith, puts_size xs)

fields_size : (fs : List Field) → size (flat_map field_image fs) ≡ length fs * 9
fields_size [] = refl
fields_size (f ∷ fs) = omega (arith, fields_size fs)

home_size : (home : Option ℕ) → size (home_image home) ≤ 3
home_size None = omega arith
home_size (Some place) = omega arith

read_size : (o : Option ReadKind) → size (read_image o) ≤ 4
read_size None = omega arith
read_size (Some Input) = omega arith
read_size (Some Mdt) = omega arith
read_size (Some MdtAlternate) = omega arith

pub image_size : (row : ℕ) (s : ScreenParts) → IsLegal s → length (spelling_of element_rules (image row s)) ≤ 4252
image_size row s legal =
    let moved : List Element = Mc s.cursor ∷ read_image s.pending in
    let put : List Element = Sba 0 ∷ (map Put s.cells ++ moved) in
    omega (
      arith,
      sizes (flat_map field_image s.fields) (home_image s.home_set ++ put),
      sizes (home_image s.home_set) put,
      sizes (map Put s.cells) moved,
      puts_size s.cells,
      fields_size s.fields,
      home_size s.home_set,
      read_size s.pending,
      legal.size,
      legal.few,
    )

-- THE ERROR LINE

-- the row after an element, by itself and by the row before it
row_after : (h : History) (e : Element) → nearest sets_error_row (after_element h e)
    ≡ option_or (sets_error_row (did e)) (nearest sets_error_row h)
row_after h e = go (is_command e && is_some (open_write h))
  where
    go : (t : Bool) → nearest sets_error_row ((if t then did e ∷ ended ∷ [] else did e ∷ []) ++ h)
        ≡ option_or (sets_error_row (did e)) (nearest sets_error_row h)
    go true = refl
    go false = refl

-- elements that say nothing of it
abbrev pub Quiet : List Element → Type 0
Quiet es = AllByRecursion (λ (e : Element). sets_error_row (did e) ≡ None) es

pub quiet_rows : (h : History) (es : List Element) → Quiet es
    → nearest sets_error_row (after_elements h es) ≡ nearest sets_error_row h
quiet_rows h [] q = refl
quiet_rows h (e ∷ es) q = quiet_rows (after_element h e) es q.1 ∙ row_after h e
    ∙ ap (λ (o : Option ℕ). option_or o (nearest sets_error_row h)) q.0

pub quiet_end : (h : History) → nearest sets_error_row (after_end h) ≡ nearest sets_error_row h
quiet_end h = go (open_write h)
  where
    go : (w : Option OpenWrite) → nearest sets_error_row (ends_of w ++ h) ≡ nearest sets_error_row h
    go None = refl
    go (Some o) = refl

pub both_quiet : (es fs : List Element) → Quiet es → Quiet fs → Quiet (es ++ fs)
both_quiet [] fs p q = q
both_quiet (e ∷ es) fs p q = (p.0, both_quiet es fs p.1 q)

fields_quiet : (fs : List Field) → Quiet (flat_map field_image fs)
fields_quiet [] = tt
fields_quiet (f ∷ fs) = (refl, (refl, fields_quiet fs))

home_quiet : (home : Option ℕ) → Quiet (home_image home)
home_quiet None = tt
home_quiet (Some place) = (refl, tt)

pub puts_quiet : (xs : List ℕ) → Quiet (map Put xs)
puts_quiet [] = tt
puts_quiet (x ∷ xs) = (refl, puts_quiet xs)

read_quiet : (o : Option ReadKind) → Quiet (read_image o)
read_quiet None = tt
read_quiet (Some Input) = (refl, tt)
read_quiet (Some Mdt) = (refl, tt)
read_quiet (Some MdtAlternate) = (refl, tt)

-- the error line of an image is the row that it was given
pub image_row : (row : ℕ) (s : ScreenParts) (h : History) → error_row (after_end (after_elements h (image row s)))
    ≡ row_of row
image_row row s h =
    let moved : List Element = Mc s.cursor ∷ read_image s.pending in
    let put : List Element = Sba 0 ∷ (map Put s.cells ++ moved) in
    let rest : List Element = flat_map field_image s.fields ++ (home_image s.home_set ++ put) in
    let front : History = after_element (after_element h ClearUnit) (Write 0 (lights s)) in
    let quiet : Quiet rest = both_quiet (flat_map field_image s.fields) (home_image s.home_set ++ put)
    (fields_quiet s.fields)
    (both_quiet (home_image s.home_set) put (home_quiet s.home_set)
    (refl, both_quiet (map Put s.cells) moved (puts_quiet s.cells) (refl, read_quiet s.pending))) in
    ap (λ (o : Option ℕ). unwrap_or o 24)
    (quiet_end (after_elements h (image row s))
    ∙ quiet_rows (after_element front (Soh (start_of_header_bytes row s.switches))) rest quiet
    ∙ row_after front (Soh (start_of_header_bytes row s.switches)))
