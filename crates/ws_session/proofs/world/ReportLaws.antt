-- With nothing in flight both option tables agree, and few tokens are ever written.

use Rattle.ws_session.proofs.Common as C
use C.{filter, ◌≡◌, ◌+◌, ◌≤◌, List, [], ◌∷◌, ◌++◌, refl, subst, ◌∙◌, ℕ, zero, suc, ◌<◌, Option, drop, ap, sym, arith}
use C.{◌^◌, inl, inr, length, length-drop, if◌then◌else◌, Bool, true, false, nat_lt, ◌-◌, replicate, nat_tests}
use C.{append-nil, drop_all, Rules, Telnet, Exchange, TablesAgree, NothingInFlight, MoveDown, MoveUp, exchange_after}
use C.{after_all_to_station, after_all_to_host, after_three_deliveries, host_allows_records, station_allows_records}
use C.{TerminalType, agrees, settled_quiet, settled_station, settled_host, plain_spelling, Item, answer_rules}
use C.{element_rules, AnswerPart, Field, ReadKind, HostAnswer, Refuses, GoesOn, Reaction, telnets, Move, HostEndState}
use C.{HostOutput, answers_in, items_coming, is_answer, answers_coming, StationEndState, delivery, three_deliveries}
use C.{refusals_in, Report, IsReport, IsOpened, Session, new_session, after_moves, IsQuiet, down_bytes, station_did}
use C.{byte_to_station, up_bytes, host_did, byte_to_host, bytes_to_station, bytes_to_host}
use Rattle.ws_nego.proofs.Exchanges.{x_few}
use Rattle.ws_record.proofs.Flights.{total_append, all_arrived, total_cons, InFlight, IsInside, not_more, total, quiet}
use Rattle.ws_record.proofs.Flights.{size}
use Rattle.ws_session.proofs.Bytewise.{none_refused, bytes_down, bytes_up}
use Rattle.ws_session.proofs.world.Betweens.{Replies, tokens, posted, Posted, Awaits, sents, Sound, Sent}
use Rattle.ws_session.proofs.world.Bytes.{next_down, next_up}
use Rattle.ws_session.proofs.world.Reached.{after_both}
use Rattle.ws_session.proofs.world.Worlds.{sound}

pub prefix_empty : {X : Type 0} (xs ys : List X) → xs ++ ys ≡ [] → xs ≡ []
prefix_empty [] ys e = refl
prefix_empty (x ∷ xs) ys e = cc

pub no_tokens : {U : Type 0} (ts : List Telnet) → tokens {U = U} ts ≡ [] → ts ≡ []
no_tokens [] e = refl
no_tokens (token ∷ ts) e = cc

module _ (t : TerminalType) where
  quiet_agrees : (w : Session) → Sound t w → IsQuiet w → TablesAgree w.station.options w.host.options
  quiet_agrees w s q =
      let x = s.between.exchanges in
      let ts : s.ts ≡ [] = no_tokens s.ts (prefix_empty _ _
      (quiet _ _ _ (subst (λ n. InFlight element_rules w.down n (tokens s.ts ++ posted s.ds)) q.to_station s.down))) in
      let us : s.us ≡ [] = no_tokens s.us (prefix_empty _ _
      (quiet _ w.up _ (subst (λ n. InFlight answer_rules w.up n (tokens s.us ++ sents s.es)) q.to_host s.up))) in
      let P : Exchange → Type 0 = λ e. NothingInFlight e → TablesAgree e.station e.host in
      subst (λ z. TablesAgree z w.host.options) x.station (subst (λ z. TablesAgree s.ex.station z) x.host
      (subst P x.is (agrees t x.moves) (record { to_station = x.to_station ∙ ts; to_host = x.to_host ∙ us })))

  pub agree_when_quiet : (ms : List Move) → IsQuiet (after_moves (new_session t) ms)
      → TablesAgree (after_moves (new_session t) ms).station.options (after_moves (new_session t) ms).host.options
  agree_when_quiet ms = quiet_agrees _ (sound t ms)

  pub few_messages : (ms : List Move) → telnets (after_moves (new_session t) ms).down + telnets
      (after_moves (new_session t) ms).up ≤ 12
  few_messages ms =
      let s = sound t ms in
      subst (λ n. n ≤ 12) s.count (x_few s.between.exchanges)

-- The answers that the host end hasn't told are on their way.

module _ {Place U : Type 0} (rules : Rules Place U) where
  from_here : (rest : List (Item U)) (part : ℕ) → IsInside rules rest part → items_coming rules rest part ≡ rest
  from_here [] part i = refl
  from_here (item ∷ rest) part i =
      let less : part < size rules item = i in
      let a : nat_lt part (size rules item) ≡ true = grind (arith, nat_tests) in
      ap (λ (b : Bool). if b then item ∷ rest else items_coming rules rest (part - size rules item)) a

  behind : (gone rest : List (Item U)) (part n : ℕ) → total rules gone + part ≡ n → IsInside rules rest part
      → items_coming rules (gone ++ rest) n ≡ rest
  behind [] rest part n e i = ap (items_coming rules rest) (sym (same e)) ∙ from_here rest part i where
    same : total rules [] + part ≡ n → part ≡ n
    same q = omega arith
  behind (g ∷ gone) rest part n e i =
      let all = total_cons rules g gone in
      let a : nat_lt n (size rules g) ≡ false = grind (arith, nat_tests) in
      let left : n - size rules g ≡ total rules gone + part = omega arith in
      ap (λ (b : Bool). if b then g ∷ (gone ++ rest) else items_coming rules (gone ++ rest) (n - size rules g)) a
      ∙ ap (items_coming rules (gone ++ rest)) left ∙ behind gone rest part _ refl i

  coming_is : (items : List (Item U)) (n : ℕ) (rest : List (Item U)) → InFlight rules items n rest
      → items_coming rules items n ≡ rest
  coming_is items n rest f = ap (λ z. items_coming rules z n) (sym f.split) ∙ behind _ rest f.part n f.count f.inside

no_answers : (us : List Telnet) (items : List (Item AnswerPart)) → filter is_answer (tokens us ++ items)
    ≡ filter is_answer items
no_answers [] items = refl
no_answers (u ∷ us) items = no_answers us items

-- each of those on its way says what is awaited
as_many : (places : List Field) (asked : Option ReadKind) (es : List Sent) (later : List HostAnswer)
    → Awaits places asked es later → length later ≡ length (filter is_answer (sents es))
as_many places asked [] later w = ap length w
as_many places asked (Replies parts ∷ es) later (kind, fs, x, rest, a, b, c, d, w) = ap length d
    ∙ ap suc (as_many _ asked es rest w)
as_many places asked (e ∷ es) later w = as_many _ asked es later w

pub rest_on_its_way : (t : TerminalType) (w : Session) (s : Sound t w) → length s.later ≡ length (answers_coming w)
rest_on_its_way t w s = as_many _ _ s.es s.later s.between.waits ∙ ap length (sym (no_answers s.us (sents s.es))) ∙ ap
    (λ z. length (filter is_answer z)) (sym (coming_is answer_rules w.up w.at_host (tokens s.us ++ sents s.es) s.up))

-- Three full deliveries each way open a session.

-- what was written stays
abbrev Grows : Session → Session → Type 0
Grows w v = (length (down_bytes w) ≤ length (down_bytes v)) × (length (up_bytes w) ≤ length (up_bytes v))

grows_on : (u v w : Session) → Grows u v → Grows v w → Grows u w
grows_on u v w a b = (omega (arith, a.0, b.0), omega (arith, a.1, b.1))

still : (w : Session) → Grows w w
still w = (omega arith, omega arith)

station_item : (w : Session) (r : Reaction StationEndState (List (Item AnswerPart))) → Grows w (station_did w r)
station_item w (Refuses reason) = still w
station_item w (GoesOn station items) = (omega arith, omega (arith, total_append answer_rules w.up items))

host_item : (w : Session) (r : Reaction HostEndState HostOutput) → Grows w (host_did w r)
host_item w (Refuses reason) = still w
host_item w (GoesOn host end_events) = (omega (arith, total_append element_rules w.down end_events.items), omega arith)

grown_down : (n : ℕ) (w : Session) → Grows w (bytes_to_station n w)
grown_down n w = bytes_down (Grows w) (λ v g. g) (λ v r g. grows_on w v (station_did v r) g (station_item v r)) n w
    (still w)

grown_up : (n : ℕ) (w : Session) → Grows w (bytes_to_host n w)
grown_up n w = bytes_up (Grows w) (λ v g. g) (λ v r g. grows_on w v (host_did v r) g (host_item v r)) n w (still w)

module _ (t : TerminalType) where
  record AllDown (ex : Exchange) (w : Session) : Type 0 where
    sound_is : Sound t w
    reached : sound_is.ex ≡ after_all_to_station ex
    none : sound_is.ds ≡ []

  no_records : (ts : List Telnet) (ds : List Posted) → tokens ts ++ posted ds ≡ [] → ds ≡ []
  no_records [] [] e = refl
  no_records ts ds e = cc

  down_done : (w : Session) (s : Sound t w) (ex : Exchange) → after_all_to_station s.ex ≡ after_all_to_station ex
      → w.at_station ≡ length (down_bytes w) → AllDown ex w
  down_done w s ex e at =
      let rest : tokens s.ts ++ posted s.ds ≡ [] = quiet element_rules w.down (tokens s.ts ++ posted s.ds)
      (rw (← at) s.down) in
      let ts : s.ts ≡ [] = no_tokens s.ts (prefix_empty (tokens s.ts) (posted s.ds) rest) in
      let same : after_all_to_station s.ex ≡ s.ex = ap (λ (l : List Telnet). exchange_after
      (replicate (length l) MoveDown) s.ex) (s.between.exchanges.to_station ∙ ts) in
      record { sound_is = s; reached = sym same ∙ e; none = no_records s.ts s.ds rest }

  full_down : (n : ℕ) (w : Session) (s : Sound t w) (ex : Exchange) → after_all_to_station s.ex ≡ after_all_to_station ex
      → length (down_bytes w) ≤ w.at_station + n → AllDown ex (bytes_to_station n w)
  full_down zero w s ex e less = down_done w s ex e
      (omega (arith, less, not_more element_rules w.down w.at_station (tokens s.ts ++ posted s.ds) s.down))
  full_down (suc n) w s ex e less = elim (next_down t w s) [
    | inl d ↦ full_down n (byte_to_station w) d.sound ex (d.same_ex ∙ e)
        (omega (arith, ap (λ z. length (plain_spelling element_rules z)) d.same_down, d.at, less))
    | inr q ↦ rw q.0 (full_down n w s ex e (omega (arith, q.1)))
  ]

  record AllUp (ex : Exchange) (ds : List Posted) (w : Session) : Type 0 where
    sound_is : Sound t w
    reached : sound_is.ex ≡ after_all_to_host ex
    same : sound_is.ds ≡ ds
    arrived_is : w.at_host ≡ length (up_bytes w)

  up_done : (w : Session) (s : Sound t w) (ex : Exchange) (ds : List Posted) → after_all_to_host s.ex
      ≡ after_all_to_host ex → s.ds ≡ ds → w.at_host ≡ length (up_bytes w) → AllUp ex ds w
  up_done w s ex ds e same at =
      let rest : tokens s.us ++ sents s.es ≡ [] = quiet answer_rules w.up (tokens s.us ++ sents s.es)
      (rw (← at) s.up) in
      let us : s.us ≡ [] = no_tokens s.us (prefix_empty (tokens s.us) (sents s.es) rest) in
      let fixed : after_all_to_host s.ex ≡ s.ex = ap (λ (l : List Telnet). exchange_after
      (replicate (length l) MoveUp) s.ex) (s.between.exchanges.to_host ∙ us) in
      record { sound_is = s; reached = sym fixed ∙ e; same = same; arrived_is = at }

  full_up : (n : ℕ) (w : Session) (s : Sound t w) (ex : Exchange) (ds : List Posted) → after_all_to_host s.ex
      ≡ after_all_to_host ex → s.ds ≡ ds → length (up_bytes w) ≤ w.at_host + n → AllUp ex ds (bytes_to_host n w)
  full_up zero w s ex ds e f less = up_done w s ex ds e f
      (omega (arith, less, not_more answer_rules w.up w.at_host (tokens s.us ++ sents s.es) s.up))
  full_up (suc n) w s ex ds e f less = elim (next_up t w s) [
    | inl d ↦ full_up n (byte_to_host w) d.sound ex ds (d.same_ex ∙ e) (d.same_ds ∙ f)
        (omega (arith, ap (λ z. length (plain_spelling answer_rules z)) d.same_up, d.at, less))
    | inr q ↦ rw q.0 (full_up n w s ex ds e f (omega (arith, q.1)))
  ]

  -- so many bytes are all that was written
  record Covers (all : ℕ) (w : Session) : Type 0 where
    down : length (down_bytes w) ≤ all
    up : length (up_bytes w) ≤ all

  covers_less : (all : ℕ) (w v : Session) → Grows w v → Covers all v → Covers all w
  covers_less all w v g c = record { down = omega (arith, g.0, c.down); up = omega (arith, g.1, c.up) }

  -- one delivery each way
  delivered : (all : ℕ) (w : Session) (s : Sound t w) → Covers all (after_moves w (delivery all))
      → AllUp (after_all_to_station s.ex) [] (after_moves w (delivery all))
  delivered all w s c =
      let v = bytes_to_station all w in
      let g : Grows w v = grown_down all w in
      let h : Grows v (bytes_to_host all v) = grown_up all v in
      let d = full_down all w s s.ex refl (omega (arith, g.0, h.0, c.down)) in
      full_up all v d.sound_is (after_all_to_station s.ex) [] (ap after_all_to_host d.reached) d.none
      (omega (arith, h.1, c.up))

  one_grows : (all : ℕ) (w : Session) → Grows w (after_moves w (delivery all))
  one_grows all w = let v = bytes_to_station all w in grows_on w v (bytes_to_host all v) (grown_down all w)
      (grown_up all v)

  pub record Opened (w : Session) : Type 0 where
    pub nothing : IsQuiet w
    pub station : station_allows_records w.station.options ≡ true
    pub host : host_allows_records w.host.options ≡ true

  pub opens : (all : ℕ) (w : Session) → Sound t w → length (down_bytes (after_moves w (three_deliveries all))) ≤ all
      → length (up_bytes (after_moves w (three_deliveries all))) ≤ all → Opened (after_moves w (three_deliveries all))
  opens all w s downs ups =
      let x1 = after_moves w (delivery all) in
      let x2 = after_moves x1 (delivery all) in
      let z = after_moves x2 (delivery all) in
      let c3 : Covers all z = record { down = downs; up = ups } in
      let c2 : Covers all x2 = covers_less all x2 z (one_grows all x2) c3 in
      let c1 : Covers all x1 = covers_less all x1 x2 (one_grows all x1) c2 in
      let a = delivered all w s c1 in
      let b = delivered all x1 a.sound_is c2 in
      let c = delivered all x2 b.sound_is c3 in
      let last = c.sound_is in
      let turn : Exchange → Exchange = λ e. after_all_to_host (after_all_to_station e) in
      let is : last.ex ≡ after_three_deliveries s.ex = c.reached ∙ ap turn (b.reached ∙ ap turn a.reached) in
      let x = s.between.exchanges in
      let quiet_is : NothingInFlight last.ex =
      subst NothingInFlight (ap after_three_deliveries x.is ∙ sym is) (settled_quiet t x.moves) in
      let ts : last.ts ≡ [] = sym last.between.exchanges.to_station ∙ quiet_is.to_station in
      let f : InFlight element_rules z.down z.at_station [] = subst (λ (l : List Telnet).
      InFlight element_rules z.down z.at_station (tokens l)) ts (subst (InFlight element_rules z.down z.at_station)
      (ap (λ (l : List Posted). tokens last.ts ++ posted l) c.same ∙ append-nil (tokens last.ts)) last.down) in
      record {
        nothing = record { to_station = all_arrived element_rules z.down z.at_station f; to_host = c.arrived_is };
        station = ap station_allows_records (sym last.between.exchanges.station) ∙ ap (λ (e : Exchange).
            station_allows_records e.station) (is ∙ sym (ap after_three_deliveries x.is)) ∙ settled_station t x.moves;
        host = ap host_allows_records (sym last.between.exchanges.host) ∙ ap (λ (e : Exchange).
            host_allows_records e.host) (is ∙ sym (ap after_three_deliveries x.is)) ∙ settled_host t x.moves;
      }

-- What holds of every session, in the words of its report.

-- nothing is left behind so many of the bytes
all_trace : (bytes : List ℕ) (n : ℕ) → n ≤ length bytes → drop n bytes ≡ [] → n ≡ length bytes
all_trace bytes n few e = omega (arith, few, length-drop n bytes, ap length e)

none_left : (bytes : List ℕ) (n : ℕ) → n ≡ length bytes → drop n bytes ≡ []
none_left bytes n e = drop_all n bytes (omega (arith, e))

module _ (t : TerminalType) (ms : List Move) (report : Report) (r : IsReport report (after_moves (new_session t) ms))
  where
    abbrev now : Session
    now = after_moves (new_session t) ms

    pub unrefused : refusals_in report.events ≡ []
    unrefused = ap refusals_in r.events ∙ none_refused t ms

    pub answers_first : (later : List HostAnswer) × (now.answered ≡ answers_in report.events ++ later)
        × (length later ≡ length (answers_coming now))
    answers_first = let s = sound t ms in
        (s.later, s.answered ∙ ap (λ l. answers_in l ++ s.later) (sym r.events), rest_on_its_way t now s)

    pub tables_agree : report.to_station ≡ [] → report.to_host ≡ []
        → TablesAgree report.station.reacts.options report.host.reacts.options
    tables_agree d u =
        let s = sound t ms in
        let at_station : now.at_station ≡ length (down_bytes now) = all_trace (down_bytes now) now.at_station
        (not_more element_rules now.down now.at_station _ s.down) (sym r.to_station ∙ d) in
        let at_host : now.at_host ≡ length (up_bytes now) = all_trace (up_bytes now) now.at_host
        (not_more answer_rules now.up now.at_host _ s.up) (sym r.to_host ∙ u) in
        rw r.station_options (rw r.host_options (agree_when_quiet t ms
        (record { to_station = at_station; to_host = at_host })))

    pub opened : length (down_bytes now) < 2 ^ 64 → length (up_bytes now) < 2 ^ 64 → (before : List Move) (all : ℕ)
        → 2 ^ 64 ≤ all + 1 → ms ≡ before ++ three_deliveries all → IsOpened report
    opened few_down few_up before all enough e =
        let w = after_moves (new_session t) before in
        let is : now ≡ after_moves w (three_deliveries all) = ap (after_moves (new_session t)) e ∙ after_both before
        (three_deliveries all) (new_session t) in
        let downs : length (down_bytes (after_moves w (three_deliveries all))) ≤ all = rw (← is) (omega
        (arith, few_down, enough)) in
        let ups : length (up_bytes (after_moves w (three_deliveries all))) ≤ all = rw (← is) (omega
        (arith, few_up, enough)) in
        let o = opens t all w (sound t before) downs ups in
        record {
          to_station = r.to_station ∙ ap (λ (z : Session). drop z.at_station (down_bytes z)) is
              ∙ none_left _ _ o.nothing.to_station;
          to_host = r.to_host ∙ ap (λ (z : Session). drop z.at_host (up_bytes z)) is ∙ none_left _ _ o.nothing.to_host;
          at_station = ap station_allows_records (r.station_options ∙ ap (λ (z : Session). z.station.options) is)
              ∙ o.station;
          at_host = ap host_allows_records (r.host_options ∙ ap (λ (z : Session). z.host.options) is) ∙ o.host;
        }
