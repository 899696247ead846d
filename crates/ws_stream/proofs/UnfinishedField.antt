-- What a machine within a Start of Field needs.
use Rattle.std.specs.List.{flat_map, list_all}
use Rattle.std.specs.Prelude.{◌≡◌, ◌≢◌, ℕ, ◌+◌, ◌-◌, ◌*◌, ◌<◌, ◌≤◌, ◌/◌, ◌%◌, List, [], ◌∷◌, ◌++◌, length, ◌⊎◌, Bool}
use Rattle.std.specs.Prelude.{true, false, nat_le, nat_lt, Option, Some, None, is_some, SomeIff, refl}
use Rattle.std.proofs.Common.{inl, inr, sym, ap, ◌∙◌, subst, arith, append_assoc, length-append}
use Rattle.std.proofs.lemmas.Bool.{both_ways, and_parts, and_from, leb-true, ltb-true, le-leb, lt-ltb, lt-leb}
use Rattle.std.proofs.lemmas.Grind.{flat_map-append}
use Rattle.std.proofs.lemmas.List.Folds.{list_all-append}
use Rattle.ws_code.specs.Code.{Stands, IsPrefix, IsUnfinished}
use Rattle.ws_code.specs.FormatWord.{IsFfw}
use Rattle.ws_code.specs.TwoBytes.{two_bytes}
use Rattle.ws_code.specs.declared.reason.Reason.TheVariants.{TooManyFcws, BadFormatByte}
use Rattle.ws_stream.specs.ElementLaws.{first, no_code, format_front, controls_front, control_low}
use Rattle.ws_stream.specs.Elements.{element_rules, spelling, IsElement, allows_orders, format_bytes}
use Rattle.ws_stream.specs.FieldOrder.{FieldOrder, IsFieldOrder, HasFormat, is_control, is_attribute}
use Rattle.ws_stream.specs.Machine.{front_bytes, is_front, are_words, words_bytes}
use Rattle.ws_stream.specs.Reasons.{element_reason}
use Rattle.ws_stream.specs.declared.element.Element.{Element}
use Rattle.ws_stream.specs.declared.element.Element.TheVariants.{Sf, Put}
use Rattle.ws_stream.specs.declared.place.Place.{Place}
use Rattle.ws_stream.proofs.Unfinished.{order_allowed}

-- SF
in_field : (u : Element) (rest : List ℕ) → IsElement u → spelling u ≡ 0x1D ∷ rest
    → (f : FieldOrder) × IsFieldOrder
    f × (format_bytes f.format ++ flat_map two_bytes f.controls ++ f.attribute ∷ two_bytes f.length ≡ rest)
in_field (Sf f) rest h e = (f, h, cc)
in_field (Put b) rest h e = no_code b 0x1D h (ap first e) refl
in_field u rest h e = absurd (omega (arith, ap first e))

pub field_begins : (place : Place) → allows_orders place ≡ true → IsUnfinished element_rules place (0x1D ∷ [])
field_begins place allowed = record {
  unit = Sf (record { format = None; controls = []; attribute = 0x20; length = 0 });
  next = 0x20;
  rest = 0 ∷ 0 ∷ [];
  stands = record {
    is_unit = record {
      formatted = refl;
      few = omega arith;
      words = refl;
      low = omega arith;
      high = omega arith;
      short =
          omega arith;
    };
    may_follow = allowed;
  };
  spelled = refl;
}

field_goes_on : (place : Place) (f : FieldOrder) (begun : List ℕ) (next : ℕ) (rest : List ℕ)
    → allows_orders place ≡ true → IsFieldOrder f
    → format_bytes f.format ++ flat_map two_bytes f.controls ++ f.attribute ∷ two_bytes f.length ≡ begun ++ next ∷ rest
    → IsUnfinished element_rules place (0x1D ∷ begun)
field_goes_on place f begun next rest allowed h e = record {
  unit = Sf f;
  next = next;
  rest = rest;
  stands = record { is_unit = h; may_follow = allowed };
  spelled = ap (λ (l : List ℕ). 0x1D ∷ l) e;
}

word_high : (h : ℕ) → two_bytes (h * 256) ≡ h ∷ 0 ∷ []
word_high h =
    let a : h * 256 / 256 ≡ h = omega arith in
    let b : h * 256 % 256 ≡ 0 = omega arith in
    ap (λ (n : ℕ). n ∷ h * 256 % 256 ∷ []) a ∙ ap (λ (n : ℕ). let l : List ℕ = h ∷ n ∷ [] in l) b

pub word_of : (h b : ℕ) → b < 256 → two_bytes (h * 256 + b) ≡ h ∷ b ∷ []
word_of h b k =
    let x : (h * 256 + b) / 256 ≡ h = omega (arith, k) in
    let y : (h * 256 + b) % 256 ≡ b = omega (arith, k) in
    ap (λ (n : ℕ). n ∷ (h * 256 + b) % 256 ∷ []) x ∙ ap (λ (n : ℕ). let l : List ℕ = h ∷ n ∷ [] in l) y

-- the words in front of an attribute
abbrev pub front : Option ℕ → List ℕ → List ℕ
front format controls = format_bytes format ++ flat_map two_bytes controls

-- what is known of a field's words so far
pub record AreWordsSoFar (format : Option ℕ) (controls : List ℕ) : Type 0 where
  pub formatted : HasFormat format controls
  pub few : length controls ≤ 8
  pub words : list_all is_control controls ≡ true

is_field : (format : Option ℕ) (controls : List ℕ) (attribute length : ℕ) → AreWordsSoFar format controls
    → 0x20 ≤ attribute → attribute < 0x40 → length < 0x10000
    → IsFieldOrder (record { format = format; controls = controls; attribute = attribute; length = length })
is_field format controls attribute length known low high short =
    record { formatted = known.formatted; few = known.few; words = known.words; low = low; high = high; short = short }

pub format_begins : (place : Place) (high : ℕ) → allows_orders place ≡ true → IsFfw (high * 256)
    → IsUnfinished element_rules place (0x1D ∷ high ∷ [])
format_begins place high allowed h =
    field_goes_on place (record { format = Some (high * 256); controls = []; attribute = 0x20; length = 0 }) (high ∷ [])
    0 (0x20 ∷ 0 ∷ 0 ∷ []) allowed
    (is_field (Some (high * 256)) [] 0x20 0 (record { formatted = h; few = omega arith; words = refl }) (omega arith)
    (omega arith) (omega arith))
    (ap (λ (l : List ℕ). l ++ [] ++ 0x20 ∷ 0 ∷ 0 ∷ []) (word_high high))

pub words_go_on : (place : Place) (format : Option ℕ) (controls : List ℕ) → allows_orders place ≡ true
    → AreWordsSoFar format controls → IsUnfinished element_rules place (0x1D ∷ front format controls)
words_go_on place format controls allowed known =
    field_goes_on place (record { format = format; controls = controls; attribute = 0x20; length = 0 })
    (front format controls) 0x20 (0 ∷ 0 ∷ []) allowed
    (is_field format controls 0x20 0 known (omega arith) (omega arith) (omega arith)) refl

pub control_goes_on_word : (place : Place) (w : ℕ) (controls : List ℕ) (high : ℕ) → allows_orders place ≡ true
    → AreWordsSoFar (Some w) controls → length controls < 8 → 0x80 ≤ high → high < 256
    → IsUnfinished element_rules place (0x1D ∷ front (Some w) controls ++ high ∷ [])
control_goes_on_word place w controls high allowed known few low big =
    let more : List ℕ = controls ++ (high * 256) ∷ [] in
    let control : is_control (high * 256) ≡ true =
    and_from _ _ (le-leb 0x8000 (high * 256) (omega (arith, low)))
    (lt-ltb (high * 256) 0x10000 (omega (arith, big))) in
    let words : list_all is_control more ≡ true = list_all-append is_control controls ((high * 256) ∷ [])
    ∙ and_from (list_all is_control controls) (list_all is_control ((high * 256) ∷ [])) known.words
    (and_from (is_control (high * 256)) true control refl) in
    let bytes : flat_map two_bytes more ≡ flat_map two_bytes controls ++ high ∷ 0 ∷ [] =
    flat_map-append two_bytes controls ((high * 256) ∷ [])
    ∙ ap (λ (l : List ℕ). flat_map two_bytes controls ++ (l ++ [])) (word_high high) in
    field_goes_on place (record { format = Some w; controls = more; attribute = 0x20; length = 0 })
    (front (Some w) controls ++ high ∷ []) 0 (0x20 ∷ 0 ∷ 0 ∷ []) allowed
    (is_field (Some w) more 0x20 0
    (record {
      formatted = known.formatted;
      few = omega (arith, few, length-append controls ((high * 256) ∷ []));
      words = words;
    }) (omega arith) (omega arith) (omega arith))
    (ap (λ (l : List ℕ). two_bytes w ++ l ++ 0x20 ∷ 0 ∷ 0 ∷ []) bytes ∙ simp append_assoc)

pub attribute_goes_on : (place : Place) (format : Option ℕ) (controls : List ℕ) (attribute : ℕ)
    → allows_orders place ≡ true → AreWordsSoFar format controls → 0x20 ≤ attribute → attribute < 0x40
    → IsUnfinished element_rules place (0x1D ∷ front format controls ++ attribute ∷ [])
attribute_goes_on place format controls attribute allowed known low high =
    field_goes_on place (record { format = format; controls = controls; attribute = attribute; length = 0 })
    (front format controls ++ attribute ∷ []) 0 (0 ∷ []) allowed
    (is_field format controls attribute 0 known low high (omega arith))
    (sym (append_assoc (front format controls) (attribute ∷ []) (0 ∷ 0 ∷ [])))

pub length_goes_on : (place : Place) (format : Option ℕ) (controls : List ℕ) (attribute high : ℕ)
    → allows_orders place ≡ true → AreWordsSoFar format controls → 0x20 ≤ attribute → attribute < 0x40 → high < 256
    → IsUnfinished element_rules place (0x1D ∷ front format controls ++ attribute ∷ high ∷ [])
length_goes_on place format controls attribute high allowed known low top big =
    field_goes_on place (record { format = format; controls = controls; attribute = attribute; length = high * 256 })
    (front format controls ++ attribute ∷ high ∷ []) 0 [] allowed
    (is_field format controls attribute (high * 256) known low top (omega (arith, big)))
    (ap (λ (l : List ℕ). front format controls ++ attribute ∷ l) (word_high high)
    ∙ sym (append_assoc (front format controls) (attribute ∷ high ∷ []) (0 ∷ [])))

-- what the bytes of a format word, of control words and of what follows them tell
pub record FollowsWords (w : ℕ) (controls rest : List ℕ) : Type 0 where
  pub legal : IsFfw w
  pub more : List ℕ
  pub attribute : ℕ
  pub length : ℕ
  pub few : Rattle.std.specs.Prelude.length controls + Rattle.std.specs.Prelude.length more ≤ 8
  pub words : list_all is_control more ≡ true
  pub low : 0x20 ≤ attribute
  pub high : attribute < 0x40
  pub bytes : flat_map two_bytes more ++ attribute ∷ two_bytes length ≡ rest

words_front : (f : FieldOrder) (w : ℕ) (controls rest : List ℕ) → IsFieldOrder f → 0x4000 ≤ w
    → list_all is_control controls ≡ true
    → format_bytes f.format ++ flat_map two_bytes f.controls ++ f.attribute ∷ two_bytes
    f.length ≡ (two_bytes w ++ flat_map two_bytes controls) ++ rest → FollowsWords w controls rest
words_front f w controls rest h format words e =
    let begins : (f.format ≡ Some w) × IsFfw
    w × (flat_map two_bytes f.controls ++ f.attribute ∷ two_bytes f.length ≡ flat_map two_bytes controls ++ rest) =
    format_front f.format f.controls f.attribute (two_bytes f.length) w (flat_map two_bytes controls ++ rest)
    h.formatted h.high format e in
    let found : (zs : List ℕ) × (f.controls ≡ controls ++ zs) × (flat_map two_bytes zs ++ f.attribute ∷ two_bytes
    f.length ≡ rest) = controls_front f.controls controls f.attribute (two_bytes f.length) rest words
    (omega (arith, h.high)) begins.2 in
    record {
      legal = begins.1;
      more = found.0;
      attribute = f.attribute;
      length = f.length;
      few = omega (arith, h.few, ap Rattle.std.specs.Prelude.length found.1, length-append controls found.0);
      words = (and_parts (list_all is_control controls) (list_all is_control found.0)
          (sym (list_all-append is_control controls found.0) ∙ ap (list_all is_control) (sym found.1) ∙ h.words)).1;
      low = h.low;
      high = h.high;
      bytes = found.2;
    }

pub words_so_far : (place : Place) (u : Element) (w : ℕ) (controls rest : List ℕ) → Stands element_rules place u
    → 0x4000 ≤ w → list_all is_control controls ≡ true
    → spelling u ≡ 0x1D ∷ (two_bytes w ++ flat_map two_bytes controls) ++ rest → FollowsWords w controls rest
words_so_far place u w controls rest stands format words e =
    let found : (f : FieldOrder) × IsFieldOrder
    f × (format_bytes f.format ++ flat_map two_bytes f.controls ++ f.attribute ∷ two_bytes
    f.length ≡ (two_bytes w ++ flat_map two_bytes controls) ++ rest) = in_field u _ stands.is_unit e in
    words_front found.0 w controls rest found.1 format words found.2

next_part_in : (w : ℕ) (controls : List ℕ) (b : ℕ) (rest zs : List ℕ) (a n : ℕ) → length controls + length zs ≤ 8
    → list_all is_control zs ≡ true → 0x20 ≤ a → a < 0x40 → flat_map two_bytes zs ++ a ∷ two_bytes n ≡ b ∷ rest
    → ((0x20 ≤ b) × (b < 0x40)) ⊎ ((0x80 ≤ b) × (length controls < 8))
next_part_in w controls b rest [] a n few words low high e = let f : a ≡ b = ap first e in
    inl (omega (arith, f, low), omega (arith, f, high))
next_part_in w controls b rest (z ∷ zs) a n few words low high e =
    let f : z / 256 ≡ b = ap first e in
    let control : 0x8000 ≤ z = control_low z (and_parts (is_control z) (list_all is_control zs) words).0 in
    inr (omega (arith, f, control), omega (arith, few))

-- what follows words is an attribute or a control word
pub next_part : (w : ℕ) (controls : List ℕ) (b : ℕ) (rest : List ℕ) → FollowsWords w controls (b ∷ rest)
    → ((0x20 ≤ b) × (b < 0x40)) ⊎ ((0x80 ≤ b) × (length controls < 8))
next_part w controls b rest f =
    next_part_in w controls b rest f.more f.attribute f.length f.few f.words f.low f.high f.bytes

-- SF, a byte more
pub some_passed : (o : Option ℕ) (P : Type 0) (v : ℕ) → is_some o ≡ true → SomeIff o P v → P
some_passed None P v e h = absurd (both_ways false refl e)
some_passed (Some x) P v e h = h.0

pub format_whole : (place : Place) (high b format : ℕ) (items : List ℕ)
    → IsUnfinished element_rules place (0x1D ∷ high ∷ []) → IsFfw format → format ≡ high * 256 + b → b < 256
    → items ≡ [] → (0x1D ∷ (two_bytes format ++ flat_map two_bytes items) ≡ 0x1D ∷ high ∷ b ∷ []) × IsUnfinished
    element_rules place (0x1D ∷ high ∷ b ∷ [])
format_whole place high b format items u h e small empty =
    let bytes : two_bytes format ≡ high ∷ b ∷ [] = ap two_bytes e ∙ word_of high b small in
    let goes_on = words_go_on place (Some format) [] (order_allowed place 0x1D (high ∷ []) (omega arith) u)
    (record { formatted = h; few = omega arith; words = refl }) in (
      ap (λ (l : List ℕ). 0x1D ∷ (two_bytes format ++ flat_map two_bytes l)) empty
          ∙ ap (λ (l : List ℕ). 0x1D ∷ (l ++ [])) bytes,
      subst (λ (l : List ℕ). IsUnfinished element_rules place (0x1D ∷ l)) bytes goes_on,
    )

pub words_known : (w : ℕ) (controls rest : List ℕ) → list_all is_control controls ≡ true → FollowsWords w controls rest
    → AreWordsSoFar (Some w) controls
words_known w controls rest words f = record { formatted = f.legal; few = omega (arith, f.few); words = words }

-- no byte is there but an attribute, or a control word while there are less than eight
pub bad_part : (place : Place) (w : ℕ) (controls : List ℕ) (b : ℕ) → 0x4000 ≤ w → list_all is_control controls ≡ true
    → ((0x20 ≤ b) × (b < 0x40) → ⊥) → ((0x80 ≤ b) × (length controls < 8) → ⊥)
    → IsPrefix element_rules place (0x1D ∷ (two_bytes w ++ flat_map two_bytes controls) ++ b ∷ []) → ⊥
bad_part place w controls b format words no_attribute no_control p =
    let follows = words_so_far place p.unit w controls (b ∷ p.rest) p.stands format words
    (p.spelled ∙ ap (λ (l : List ℕ). 0x1D ∷ l)
    (append_assoc (two_bytes w ++ flat_map two_bytes controls) (b ∷ []) p.rest)) in
    elim (next_part w controls b p.rest follows) [ inl h ↦ no_attribute h | inr h ↦ no_control h ]

pub many_reason : (place : Place) (w : ℕ) (controls : List ℕ) (b : ℕ) → 0x80 ≤ b
    → TooManyFcws ≡ element_reason place (0x1D ∷ (two_bytes w ++ flat_map two_bytes controls)) b
many_reason place w controls b h = rw (le-leb 0x80 b h) refl

pub byte_reason : (place : Place) (w : ℕ) (controls : List ℕ) (b : ℕ) → b < 0x80
    → BadFormatByte ≡ element_reason place (0x1D ∷ (two_bytes w ++ flat_map two_bytes controls)) b
byte_reason place w controls b h = rw (lt-leb 0x80 b h) refl

-- a byte that begins neither an attribute nor a control word
pub bad_next : (place : Place) (w : ℕ) (controls : List ℕ) (b : ℕ) → are_words w controls ≡ true
    → ((0x20 ≤ b) × (b < 0x40) → ⊥) → b < 0x80
    → (IsPrefix element_rules place (0x1D ∷ words_bytes w controls ++ b ∷ []) → ⊥)
    × (BadFormatByte ≡ element_reason place (0x1D ∷ words_bytes w controls) b)
bad_next place w controls b words no_attribute low =
    let parts = and_parts (nat_le 0x4000 w) (list_all is_control controls) words in (
      bad_part place w controls b (leb-true 0x4000 w parts.0) parts.1 no_attribute (λ h. omega (arith, h.0, low)),
      byte_reason place w controls b low,
    )

pub follows_here : (place : Place) (w : ℕ) (controls : List ℕ) → 0x4000 ≤ w → list_all is_control controls ≡ true
    → (u : IsUnfinished element_rules place (0x1D ∷ (two_bytes w ++ flat_map two_bytes controls)))
    → FollowsWords w controls (u.next ∷ u.rest)
follows_here place w controls format words u =
    words_so_far place u.unit w controls (u.next ∷ u.rest) u.stands format words u.spelled

pub follows_byte : (place : Place) (w : ℕ) (controls : List ℕ) (b : ℕ) (tail : List ℕ) → 0x4000 ≤ w
    → list_all is_control controls ≡ true
    → (u : IsUnfinished element_rules place (0x1D ∷ (two_bytes w ++ flat_map two_bytes controls) ++ b ∷ tail))
    → FollowsWords w controls (b ∷ tail ++ u.next ∷ u.rest)
follows_byte place w controls b tail format words u =
    words_so_far place u.unit w controls (b ∷ tail ++ u.next ∷ u.rest) u.stands format words
    (u.spelled ∙ ap (λ (l : List ℕ). 0x1D ∷ l)
    (append_assoc (two_bytes w ++ flat_map two_bytes controls) (b ∷ tail) (u.next ∷ u.rest)))

pub control_fits : (w : ℕ) (controls : List ℕ) (b : ℕ) (rest : List ℕ) → 0x80 ≤ b → FollowsWords w controls (b ∷ rest)
    → length controls < 8
control_fits w controls b rest high f =
    elim (next_part w controls b rest f) [ inl h ↦ absurd (omega (arith, high, h.1)) | inr h ↦ h.1 ]

pub control_whole : (place : Place) (w : ℕ) (controls items : List ℕ) (high b v : ℕ) → 0x4000 ≤ w
    → list_all is_control controls ≡ true → 0x80 ≤ high → high < 256 → b < 256 → v ≡ high * 256 + b
    → items ≡ controls ++ v ∷ []
    → IsUnfinished element_rules place (0x1D ∷ (two_bytes w ++ flat_map two_bytes controls) ++ high ∷ [])
    → (0x1D ∷ (two_bytes w ++ flat_map two_bytes items) ≡ 0x1D ∷ (two_bytes w ++ flat_map two_bytes
    controls) ++ high ∷ [] ++ b ∷ []) × IsUnfinished element_rules place
    (0x1D ∷ (two_bytes w ++ flat_map two_bytes controls) ++ high ∷ [] ++ b ∷ [])
control_whole place w controls items high b v format words low big small is all u =
    let follows = follows_byte place w controls high [] format words u in
    let fits = control_fits w controls high (u.next ∷ u.rest) low follows in
    let control : is_control v ≡ true =
    and_from _ _ (le-leb 0x8000 v (omega (arith, is, low))) (lt-ltb v 0x10000 (omega (arith, is, big, small))) in
    let are : list_all is_control (controls ++ v ∷ []) ≡ true = list_all-append is_control controls (v ∷ [])
    ∙ and_from (list_all is_control controls) (list_all is_control (v ∷ [])) words
    (and_from (is_control v) true control refl) in
    let bytes : flat_map two_bytes items ≡ flat_map two_bytes controls ++ high ∷ [] ++ b ∷ [] =
    ap (λ (l : List ℕ). flat_map two_bytes l) all ∙ flat_map-append two_bytes controls (v ∷ [])
    ∙ ap (λ (l : List ℕ). flat_map two_bytes controls ++ (l ++ [])) (ap two_bytes is ∙ word_of high b small)
    ∙ sym (append_assoc (flat_map two_bytes controls) (high ∷ []) (b ∷ [])) in
    let known : AreWordsSoFar (Some w) items = record {
      formatted = follows.legal;
      few = omega (arith, fits, ap length all, length-append controls (v ∷ []));
      words = ap (λ (l : List ℕ). list_all is_control l) all ∙ are;
    } in
    let same : 0x1D ∷ (two_bytes w ++ flat_map two_bytes items) ≡ 0x1D ∷ (two_bytes w ++ flat_map two_bytes
    controls) ++ high ∷ [] ++ b ∷ [] = ap (λ (l : List ℕ). 0x1D ∷ (two_bytes w ++ l)) bytes in (
      same,
      subst (λ (l : List ℕ). IsUnfinished element_rules place l) same
          (words_go_on place (Some w) items (order_allowed place 0x1D _ (omega arith) u) known),
    )

front_known : (place : Place) (fr : Option ℕ) (kept : List ℕ) (attribute : ℕ) → is_front fr kept ≡ true
    → IsUnfinished element_rules place (0x1D ∷ front_bytes fr kept ++ attribute ∷ [])
    → (format : Option ℕ) × (controls : List ℕ) × AreWordsSoFar format
    controls × (front format controls ≡ front_bytes fr kept)
front_known place None kept attribute sound u =
    (None, [], record { formatted = refl; few = omega arith; words = refl }, refl)
front_known place (Some w) kept attribute sound u =
    let parts = and_parts (nat_le 0x4000 w) (list_all is_control kept) sound in (
      Some w,
      kept,
      words_known w kept _ parts.1
          (follows_byte place w kept attribute [] (leb-true 0x4000 w parts.0) parts.1 u),
      refl,
    )

pub length_begins : (place : Place) (fr : Option ℕ) (kept : List ℕ) (attribute b : ℕ) → is_front fr kept ≡ true
    → is_attribute attribute ≡ true → b < 256
    → IsUnfinished element_rules place (0x1D ∷ front_bytes fr kept ++ attribute ∷ [])
    → (0x1D ∷ front_bytes fr kept ++ attribute ∷ b ∷ [] ≡ 0x1D ∷ front_bytes fr
    kept ++ attribute ∷ [] ++ b ∷ []) × IsUnfinished element_rules place
    (0x1D ∷ front_bytes fr kept ++ attribute ∷ [] ++ b ∷ [])
length_begins place fr kept attribute b sound legal small u =
    let found : (format : Option ℕ) × (controls : List ℕ) × AreWordsSoFar format
    controls × (front format controls ≡ front_bytes fr kept) = front_known place fr kept attribute sound u in
    let parts = and_parts (nat_le 0x20 attribute) (nat_lt attribute 0x40) legal in
    let goes_on = length_goes_on place found.0 found.1 attribute b (order_allowed place 0x1D _ (omega arith) u) found.2
    (leb-true 0x20 attribute parts.0) (ltb-true attribute 0x40 parts.1) small in
    let same : 0x1D ∷ front_bytes fr kept ++ attribute ∷ b ∷ [] ≡ 0x1D ∷ front_bytes fr
    kept ++ attribute ∷ [] ++ b ∷ [] =
    ap (λ (l : List ℕ). 0x1D ∷ l) (sym (append_assoc (front_bytes fr kept) (attribute ∷ []) (b ∷ []))) in (
      same,
      subst (λ (l : List ℕ). IsUnfinished element_rules place l) same
          (subst (λ (l : List ℕ). IsUnfinished element_rules place (0x1D ∷ l ++ attribute ∷ b ∷ [])) found.3 goes_on),
    )
