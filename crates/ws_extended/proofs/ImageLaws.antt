-- An image makes any screen equal to its own.
use Rattle.std.specs.List.{flat_map, list_any}
use Rattle.std.proofs.Common.{◌≡◌, ℕ, ◌+◌, ◌<◌, List, [], ◌∷◌, ◌++◌, Bool, true, false, Option, Some, None, ◌&&◌, refl}
use Rattle.std.proofs.Common.{sym, ap, ◌∙◌, subst, arith, map, slice_index, if◌then◌else◌, unwrap_or, replicate}
use Rattle.std.proofs.lemmas.List.{length-replicate}
use Rattle.std.proofs.lemmas.List.FromFn.{get_or-map-range_with_len}
use Rattle.ws_stream.specs.declared.element.Element.{Element}
use Rattle.ws_stream.specs.declared.element.Element.TheVariants.{ClearUnit, Write, Soh, Sba, Mc, Put}
use Rattle.ws_screen.specs.Bodies.{after_elements, after_end, body_fault, screen_of}
use Rattle.ws_screen.specs.Cells.{cell}
use Rattle.ws_screen.specs.Controls.{has_bit, is_nulled, light}
use Rattle.ws_screen.specs.Events.{History}
use Rattle.ws_screen.specs.Faults.{fault}
use Rattle.ws_screen.specs.Given.{Gives, FollowsAll, ends_of, events_of, format_of, state_given, state_of}
use Rattle.ws_screen.specs.Reads.{Read, read_in}
use Rattle.ws_screen.specs.ScreenParts.{AreApart, IsLegal, ScreenParts, holds}
use Rattle.ws_screen.specs.States.{switches_of}
use Rattle.ws_screen.specs.Steps.{IsControlCarriedOut, after_cc1, after_cc2, without_format}
use Rattle.ws_screen.specs.Writes.{open_write}
use Rattle.ws_screen.specs.declared.control.TheConstants.{UNLOCK, MESSAGE_ON, MESSAGE_OFF, BLINK_ON, BLINK_OFF}
use Rattle.ws_screen.specs.declared.field.Field.{Field}
use Rattle.ws_screen.specs.declared.open_write.OpenWrite.{OpenWrite}
use Rattle.ws_screen.specs.declared.read_kind.ReadKind.{ReadKind}
use Rattle.ws_screen.specs.declared.read_kind.ReadKind.TheVariants.{Input, Mdt, MdtAlternate}
use Rattle.ws_screen.proofs.CommandLemmas.{clear_unit_gives, end_follows, read_follows, write_gives}
use Rattle.ws_screen.proofs.Legal.{zeros}
use Rattle.ws_screen.proofs.OrderLemmas.{mc_gives, soh_gives}
use Rattle.ws_screen.proofs.ScreenLaws.{one_screen}
use Rattle.ws_extended.specs.Image.{field_image, start_of_header_bytes, home_image, image, lights, plain_read}
use Rattle.ws_extended.specs.Image.{read_image}
use Rattle.ws_extended.proofs.Leads.{Leads, ends_with, leads_by, leads_none}
use Rattle.ws_extended.proofs.Painting.{fields_lead, home_leads, painted, cells_lead, sba_leads, write_at}
use Rattle.ws_extended.proofs.Starts.{behind_attributes}

-- THE FRONT

-- a cleared screen
abbrev cleared : ScreenParts → ScreenParts
cleared s = record (without_format s) { cells = replicate 1920 0; cursor = 0 }

clear_leads : (rest : List Element) (old new : ScreenParts) → old.writing ≡ None → Leads rest (cleared old) new
    → Leads (ClearUnit ∷ rest) old new
clear_leads rest old new closed leads =
    leads_by ClearUnit rest old (cleared old) new refl
    (subst (λ (w : Option OpenWrite). FollowsAll (events_of w ClearUnit) old (cleared old)) (sym closed)
    (record { after = λ h g. clear_unit_gives h old (replicate 1920 0) (λ c small. zeros 1920 c) g })) leads

-- a write without a CC1's effect, on a cleared screen
write_leads : (rest : List Element) (s new : ScreenParts) (cc2 : ℕ)
    → Leads rest (painted (cleared s) (replicate 1920 0) [] (write_at cc2 0)) new
    → Leads (Write 0 cc2 ∷ rest) (cleared s) new
write_leads rest s new cc2 leads =
    let done : IsControlCarriedOut 0 (cleared s) (cleared s) = record { rest = refl; nulled = λ c. refl } in
    leads_by (Write 0 cc2) rest (cleared s) (painted (cleared s) (replicate 1920 0) [] (write_at cc2 0)) new refl
    (record { after = λ h g. write_gives h (cleared s) (cleared s) 0 cc2 done g }) leads

soh_leads : (rest : List Element) (b new : ScreenParts) (cells bytes : List ℕ) (fs : List Field) (o : OpenWrite)
    → Leads rest (painted (record b { home_set = None; switches = switches_of bytes }) cells [] o) new
    → Leads (Soh bytes ∷ rest) (painted b cells fs o) new
soh_leads rest b new cells bytes fs o leads =
    let old : ScreenParts = painted b cells fs o in
    leads_by (Soh bytes) rest old (painted (record b { home_set = None; switches = switches_of bytes }) cells [] o) new
    refl (record { after = λ h g. soh_gives h old bytes g }) leads

-- three bytes are the switches
switches_again : (row n : ℕ) → n < 0x1000000 → switches_of (start_of_header_bytes row n) ≡ n
switches_again row n small = omega (arith, small)

-- THE END

-- lock and lights by the control character
abbrev said : Bool → Bool → Bool → ℕ
said locked message blink = (if locked then 0 else UNLOCK) + (if message then MESSAGE_ON else MESSAGE_OFF)
    + (if blink then BLINK_ON else BLINK_OFF)

pub says_lock : (l m k : Bool) → (if has_bit UNLOCK (said l m k) then false else true) ≡ l
says_lock true true true = refl
says_lock true true false = refl
says_lock true false true = refl
says_lock true false false = refl
says_lock false true true = refl
says_lock false true false = refl
says_lock false false true = refl
says_lock false false false = refl

says_message : (l m k was : Bool) → unwrap_or (light MESSAGE_ON MESSAGE_OFF (Some (said l m k))) was ≡ m
says_message true true true was = refl
says_message true true false was = refl
says_message true false true was = refl
says_message true false false was = refl
says_message false true true was = refl
says_message false true false was = refl
says_message false false true was = refl
says_message false false false was = refl

says_blink : (l m k was : Bool) → unwrap_or (light BLINK_ON BLINK_OFF (Some (said l m k))) was ≡ k
says_blink true true true was = refl
says_blink true true false was = refl
says_blink true false true was = refl
says_blink true false false was = refl
says_blink false true true was = refl
says_blink false true false was = refl
says_blink false false true was = refl
says_blink false false false was = refl

-- the open write at the image's end
abbrev write_end : ScreenParts → ℕ → OpenWrite
write_end s a = record { address = a; cc2 = lights s; mc = Some s.cursor }

-- the screen before the write ends
abbrev before_end : ScreenParts → ScreenParts → ℕ → ScreenParts
before_end t s a = record (cleared t) {
  cells = s.cells;
  fields = s.fields;
  switches = switches_of (start_of_header_bytes 0 s.switches);
  home_set = s.home_set;
  writing = Some (write_end s a);
}

-- and after its end
abbrev behind_end : ScreenParts → ScreenParts → ℕ → ScreenParts
behind_end t s a = record (after_cc2 (lights s) (Some s.cursor) (before_end t s a)) { writing = None }

ended : (t s : ScreenParts) (a : ℕ)
    → FollowsAll (ends_of (before_end t s a).writing) (before_end t s a) (behind_end t s a)
ended t s a = end_follows (before_end t s a) (after_cc2 (lights s) (Some s.cursor) (before_end t s a)) (write_end s a)
    refl refl

-- a read that locks and lights nothing leaves the fields
kept : (fs : List Field) → map (after_cc1 0) fs ≡ fs
kept [] = refl
kept (f ∷ fs) = ap (λ l. f ∷ l) (kept fs)

abbrev plain : ReadKind → Read
plain kind = record { kind = kind; cc1 = 0; cc2 = 0 }

plain_in : (kind : ReadKind) → read_in (plain_read kind) ≡ Some (plain kind)
plain_in Input = refl
plain_in Mdt = refl
plain_in MdtAlternate = refl

plain_fault : (kind : ReadKind) (s : ScreenParts) → fault s (plain_read kind) ≡ None
plain_fault Input s = refl
plain_fault Mdt s = refl
plain_fault MdtAlternate s = refl

carried_plain : (s : ScreenParts) → IsControlCarriedOut 0 s s
carried_plain s = record {
  rest = ap (λ (fs : List Field). record s { fields = fs }) (sym (kept s.fields));
  nulled = λ c. none s.fields c;
}
  where
    none : (fs : List Field) (c : ℕ) → slice_index s.cells c
        ≡ (if list_any (λ f. is_nulled 0 f && holds f c) fs then 0 else slice_index s.cells c)
    none [] c = refl
    none (f ∷ fs) c = none fs c

-- the pending read, and the end
read_ends : (t s : ScreenParts) (a : ℕ) (o : Option ReadKind) (rest_es : List Element) (old : ScreenParts)
    → ((new : ScreenParts) → Leads (read_image o) (before_end t s a) new → Leads rest_es old new)
    → (h : History) → Gives h old
    → Gives (after_end (after_elements h rest_es)) (record (behind_end t s a) { pending = o })
    × (body_fault h rest_es ≡ None)
read_ends t s a None es old leads h g =
    let all : Leads es old (before_end t s a) = leads (before_end t s a) (leads_none (before_end t s a)) in
    (ends_with es old (before_end t s a) (behind_end t s a) all (ended t s a) h g, all.unrefused h g)
read_ends t s a (Some kind) es old leads h g =
    let mid : ScreenParts = behind_end t s a in
    let new : ScreenParts = record mid { pending = Some kind } in
    let read : FollowsAll (events_of (before_end t s a).writing (plain_read kind)) (before_end t s a) new =
    read_follows (plain kind) (before_end t s a) mid mid mid (ended t s a) refl (carried_plain mid) refl
    (plain_read kind) (plain_in kind) in
    let all : Leads es old new =
    leads new (leads_by (plain_read kind) [] (before_end t s a) new new (plain_fault kind (before_end t s a)) read
    (leads_none new)) in
    (ends_with es old new new all (record { after = λ k r. r }) h g, all.unrefused h g)

-- THE WHOLE

-- no write is open on a screen
record IsClosed (s : ScreenParts) : Type 0 where
  legal : IsLegal s
  closed : s.writing ≡ None

-- what stands before the end of the write leads to it
leads_to_end : (row : ℕ) (s t new : ScreenParts) → IsClosed s → AreApart 1 s.fields → t.writing ≡ None
    → Leads (read_image s.pending) (before_end t s 1920) new → Leads (image row s) t new
leads_to_end row s t new ok apart closed leads =
    let switched : ScreenParts = record (cleared t) { switches = switches_of (start_of_header_bytes row s.switches) } in
    let homed : ScreenParts = record switched { home_set = s.home_set } in
    let moved : List Element = Mc s.cursor ∷ read_image s.pending in
    let put : List Element = Sba 0 ∷ (map Put s.cells ++ moved) in
    let cc2 : ℕ = lights s in
    clear_leads (Write 0 cc2 ∷ Soh (start_of_header_bytes row s.switches) ∷ (flat_map field_image s.fields
    ++ (home_image s.home_set ++ put))) t new closed
    (write_leads (Soh (start_of_header_bytes row s.switches) ∷ (flat_map field_image s.fields ++ (home_image s.home_set ++ put))) t new
    cc2
    (soh_leads (flat_map field_image s.fields ++ (home_image s.home_set ++ put)) (cleared t) new (replicate 1920 0)
    (start_of_header_bytes row s.switches) [] (write_at cc2 0)
    (fields_lead (record switched { home_set = None }) new cc2 (home_image s.home_set ++ put) s.fields [] 1
    (replicate 1920 0) 0 (length-replicate {A = ℕ} 1920 0) (omega arith) apart (omega arith) tt
    (omega (arith, ok.legal.few))
    (λ cells a size. home_leads switched new cells s.fields (write_at cc2 a) put s.home_set
    (sba_leads homed new cells s.fields cc2 a 0 (map Put s.cells ++ moved)
    (cells_lead homed new s.fields cc2 moved s.cells cells size ok.legal.size
    (mc_leads homed new cc2 (read_image s.pending) leads)))))))
  where
    mc_leads : (homed new : ScreenParts) (cc2 : ℕ) (rest : List Element)
        → Leads rest (painted homed s.cells s.fields (write_end s 1920)) new
        → Leads (Mc s.cursor ∷ rest) (painted homed s.cells s.fields (write_at (lights s) 1920)) new
    mc_leads homed new cc2 rest leads =
        let old : ScreenParts = painted homed s.cells s.fields (write_at (lights s) 1920) in
        leads_by (Mc s.cursor) rest old (painted homed s.cells s.fields (write_end s 1920)) new refl
        (record { after = λ h g. mc_gives h old (write_at (lights s) 1920) s.cursor refl g }) leads

-- the end of an image gives its screen
gives_again : (t s : ScreenParts) (h : History) → IsClosed s
    → Gives h (record (behind_end t s 1920) { pending = s.pending }) → Gives h s
gives_again t s h ok g = record {
  cells = g.cells;
  format = (λ i. record (format_of s) { switches = sym (switches_again 0 s.switches ok.legal.switched) i }) ∙ g.format;
  state = (λ i. record (state_of s) {
    locked = sym (says_lock s.locked s.message s.blink) i;
    message = sym (says_message s.locked s.message s.blink t.message) i;
    blink = sym (says_blink s.locked s.message s.blink t.blink) i;
    writing = ok.closed i;
  }) ∙ g.state;
}

-- every history between two bodies gives a screen
some_screen : (h : History) → open_write h ≡ None → Gives h (record (screen_of h) { writing = None })
some_screen h closed = record {
  cells = λ c small. get_or-map-range_with_len (λ n. cell n h) 0 1920 c c 0 small (omega arith);
  format = refl;
  state = λ i. record (state_given h) { writing = sym closed i };
}

makes : (row : ℕ) (s : ScreenParts) → IsClosed s → AreApart 1 s.fields → (h : History) → open_write h ≡ None
    → Gives (after_end (after_elements h (image row s))) s × (body_fault h (image row s) ≡ None)
makes row s ok apart h closed =
    let t : ScreenParts = record (screen_of h) { writing = None } in
    let both : _ = read_ends t s 1920 s.pending (image row s) t
    (λ new leads. leads_to_end row s t new ok apart refl leads) h (some_screen h closed) in
    (gives_again t s (after_end (after_elements h (image row s))) ok both.0, both.1)

pub image_gives : (g : History) (s : ScreenParts) → Gives g s → IsLegal s → s.writing ≡ None → (row : ℕ) (h : History)
    → open_write h ≡ None → s ≡ screen_of (after_end (after_elements h (image row s)))
image_gives g s given legal done row h closed =
    one_screen (after_end (after_elements h (image row s))) s
    (makes row s (record { legal = legal; closed = done }) (behind_attributes g s given legal.apart) h closed).0
    legal.size

pub image_unrefused : (g : History) (s : ScreenParts) → Gives g s → IsLegal s → s.writing ≡ None → (row : ℕ)
    (h : History) → open_write h ≡ None → body_fault h (image row s) ≡ None
image_unrefused g s given legal done row h closed =
    (makes row s (record { legal = legal; closed = done }) (behind_attributes g s given legal.apart) h closed).1
