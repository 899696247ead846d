use Rattle.std.specs.List.{flat_map, AllByRecursion}
use Rattle.std.specs.Prelude.{codes}
use Rattle.std.specs.Str.Lines.{lines}
use Rattle.std.proofs.Common.{◌≡◌, ℕ, ◌^◌, ◌<◌, List, [], ◌∷◌, ◌++◌, true, length, map, refl, sym, subst, ◌∙◌, ap}
use Rattle.std.proofs.Common.{arith}
use Rattle.ws_code.specs.Code.{Rules, IsChain}
use Rattle.ws_code.specs.declared.address.TheConstants.{ROWS}
use Rattle.ws_code.proofs.Lists.{AllByRecursion-append}
use Rattle.ws_telnet.specs.Streams.{joined}
use Rattle.ws_telnet.specs.Token.{token_rules, IsToken}
use Rattle.ws_telnet.specs.declared.token.Token.{Token}
use Rattle.ws_telnet.specs.declared.token.Token.TheVariants.{Data, Eor, Telnet as TelnetToken}
use Rattle.ws_record.specs.Encode.{CanBeEncoded, CanAllBeEncoded, IsInRange}
use Rattle.ws_record.specs.Grammar.{IsInGrammar, IsStretch, commands}
use Rattle.ws_record.specs.declared.record.Item.{Item}
use Rattle.ws_record.specs.declared.record.Item.TheVariants.{Record as RecordItem}
use Rattle.ws_record.specs.declared.record.Record.{Record}
use Rattle.ws_stream.specs.Elements.{element_rules}
use Rattle.ws_stream.specs.declared.element.Element.{Element}
use Rattle.ws_text.specs.Items.{EndsHere}
use Rattle.ws_text.specs.Shown.{ShowsElements}
use Rattle.ws_text.proofs.ShownBytes.{literal, line_from, lines_back}
use Rattle.ws_printing.specs.declared.look.Look.{Look}
use Rattle.ws_printing.specs.declared.paint.Paint.TheVariants.{Plain}
use Rattle.ws_printing.specs.ScreenLines.{on_037, rows_text, state_line}
use Rattle.ws_program.specs.StreamText.{showing, View, Placed, items_without_places, AreShown, IsShown}
use Rattle.ws_program.specs.Views.{host_view, IsScreenEnd}

-- What is shown of a stream shows its items.

apart : {X : Type 0} (P : X → Type 0) (xs ys : List X) → AllByRecursion P (xs ++ ys)
    → AllByRecursion P xs × AllByRecursion P ys
apart P [] ys h = (tt, h)
apart P (x ∷ xs) ys h = let rest = apart P xs ys h.1 in ((h.0, rest.0), rest.1)

-- tokens that stand in a stream
all_tokens : (tokens : List Token) → IsChain token_rules tt tokens → AllByRecursion IsToken tokens
all_tokens [] c = tt
all_tokens (t ∷ tokens) c = (c.0.is_unit, all_tokens tokens c.1)

module _ {Place U : Type 0} (rules : Rules Place U) where
  -- an item that `encode` accepts
  abbrev IsRight : Item U → Type 0
  IsRight item = CanBeEncoded rules item × IsInRange item

  abbrev AreRight : List (Item U) → Type 0
  AreRight items = AllByRecursion IsRight items

  commands_right : (tokens : List Token) → AllByRecursion IsToken tokens → AreRight (commands tokens)
  commands_right [] h = tt
  commands_right (Data b ∷ tokens) h = commands_right tokens h.1
  commands_right (Eor ∷ tokens) h = commands_right tokens h.1
  commands_right (TelnetToken t ∷ tokens) h = ((tt, h.0), commands_right tokens h.1)

  stretches_right : (ss : List (List Token × Record U)) (rest : List Token)
      → AllByRecursion IsToken (joined (map (λ s. s.0) ss) rest) → AllByRecursion (IsStretch rules) ss
      → AreRight (flat_map (λ s. commands s.0 ++ RecordItem s.1 ∷ []) ss) × AreRight (commands rest)
  stretches_right [] rest h e = (tt, commands_right rest h)
  stretches_right (s ∷ ss) rest h e =
      let first = s.0 ++ Eor ∷ [] in
      let others = flat_map (λ part. part ++ Eor ∷ []) (map (λ s. s.0) ss) in
      let cut = apart IsToken (first ++ others) rest h in
      let front = apart IsToken first others cut.0 in
      let own = apart IsToken s.0 (Eor ∷ []) front.0 in
      let behind = stretches_right ss rest (AllByRecursion-append IsToken others rest front.1 cut.1) e.1 in
      let r = e.0.is_record in (
        AllByRecursion-append IsRight (commands s.0 ++ RecordItem s.1 ∷ []) _
            (AllByRecursion-append IsRight (commands s.0) (RecordItem s.1 ∷ []) (commands_right s.0 own.0)
            (((r.body, r.length_fits), r.flags_fit), tt)) behind.0,
        behind.1,
      )

  grammar_right : (bytes : List ℕ) (items : List (Item U)) → IsInGrammar rules bytes items → AreRight items
  grammar_right bytes items h =
      let both = stretches_right h.stretches h.rest (all_tokens _ h.cut.chain) h.each in
      subst (λ (z : List (Item U)). AreRight z) (sym h.are_items) (AllByRecursion-append IsRight _ _ both.0 both.1)

  right_parts : (items : List (Item U)) → AreRight items → CanAllBeEncoded rules items × AllByRecursion IsInRange items
  right_parts [] h = (tt, tt)
  right_parts (x ∷ items) h = let rest = right_parts items h.1 in ((h.0.0, rest.0), (h.0.1, rest.1))

  -- each place is one of the bytes
  all_places : (view : View U) (bytes : List ℕ) (before : List (Item U)) (placed : List (Placed U))
      → length bytes < 2 ^ 64 → AreShown (showing rules view) bytes before placed → AllByRecursion
      (λ x. x.0 < 2 ^ 64) placed
  all_places view bytes before [] fits h = tt
  all_places view bytes before (x ∷ placed) fits h =
      let within = h.0.within in
      (omega (arith, within, fits), all_places view bytes (before ++ x.1 ∷ []) placed fits h.2)

-- a screen's first line
screen_ends : (look : Look) (items : List (Item Element)) (text : List ℕ) → IsScreenEnd look items text
    → EndsHere (lines text)
screen_ends look items text h =
    let rest = rows_text look h.0.cells ROWS ++ state_line h.0 in
    let first : lines text ≡ codes "screen" ∷ lines rest = ap lines h.2
    ∙ lines_back (codes "screen" ∷ []) rest (line_from (codes "screen") [] (literal (codes "screen") refl) tt, tt) in
    subst (λ (z : List (List ℕ)). EndsHere z) (sym first) refl

pub shows_items : (bytes text : List ℕ) → length bytes < 2 ^ 64 → IsShown (showing element_rules host_view) bytes
    true text
    → (items : List (Item Element)) × IsInGrammar element_rules bytes items × ShowsElements text items
shows_items bytes text fits s =
    let items = items_without_places s.placed in
    let right = right_parts element_rules items (grammar_right element_rules bytes items s.ends.0) in (
      items_without_places s.placed,
      s.ends.0,
      record {
        placed = s.placed;
        rest = s.end;
        split = s.lines;
        are_items = refl;
        places = all_places element_rules host_view bytes [] s.placed fits s.shown;
        encoded = right.0;
        in_range = right.1;
        ends = screen_ends (on_037 Plain) (items_without_places s.placed) s.end s.ends.1;
      },
    )
