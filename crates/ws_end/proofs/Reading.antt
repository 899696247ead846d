-- A body that is read from its bytes, one unit at a time, each into an empty slot.
use Rattle.std.proofs.Common.{◌≡◌, ℕ, List, [], ◌∷◌, ◌++◌, Option, Some, None, refl, sym, ap, ◌∙◌, subst, append_assoc}
use Rattle.std.proofs.lemmas.List.{append-nil}
use Rattle.ws_code.specs.Code.{Rules, Stands, IsChain, IsCut, IsPrefix, IsPrefixFree, IsSpelled, IsUnfinished}
use Rattle.ws_code.specs.Code.{place_after, spelling_of}
use Rattle.ws_code.specs.Keep.{holds_last, Keeps, slot_keeper}
use Rattle.ws_code.specs.Run.{Reading, HasReadValues, IsAt, IsRunOfValues, RunsOn, StopsAtLast, intake, with_keep}
use Rattle.ws_code.specs.declared.reason.Reason.{Reason}
use Rattle.ws_code.specs.declared.run.End.{End}
use Rattle.ws_code.specs.declared.run.End.TheVariants.{More, Enough, NoMemory, Bad}
use Rattle.ws_code.specs.declared.run.Standing.{Standing}
use Rattle.ws_code.proofs.CodeLaws.{Begins, cut_bad, cut_unit, no_end, one_cut, place_after_more}
use Rattle.ws_code.proofs.Slots.{only_enough, slot_is}

slot_none : {U : Type 0} (slot : Option U) → holds_last slot [] → slot ≡ None
slot_none None h = refl
slot_none (Some unit) h = absurd (no_end h.0 unit [] h.1)

module _ {Place U : Type 0} (rules : Rules Place U) where
  -- these units were read, and this one is
  pub record HasRead (bytes : List ℕ) (units : List U) (reading : Reading Place) : Type 0 where
    pub cut : IsCut rules bytes units reading.begun
    pub at_place : reading.place ≡ place_after rules rules.first units

  -- so it is at the beginning, and behind a run from there
  pub read_none : Begins rules → (reading : Reading Place) → reading ≡ record { place = rules.first; begun = [] }
      → HasRead [] [] reading
  read_none begins reading first = rw first (record {
    cut = record { chain = tt; more = begins rules.first; spelled = refl };
    at_place = refl;
  })

  pub read_run : (from to : Reading Place) (values : List ℕ) → (run : HasReadValues rules from values to)
      → from ≡ record { place = rules.first; begun = [] } → HasRead values run.units to
  read_run from to values run first = record {
    cut = record {
      chain = subst (λ (r : Reading Place). IsChain rules r.place run.units) first run.chain;
      more = subst (λ (p : Place). IsUnfinished rules p to.begun) behind run.unfinished;
      spelled = run.spelled ∙ ap (λ (r : Reading Place). r.begun ++ values) first;
    };
    at_place = behind;
  }
    where
      behind : to.place ≡ place_after rules rules.first run.units
      behind = run.behind ∙ ap (λ (r : Reading Place). place_after rules r.place run.units) first

  abbrev pub IsSlotRun : Reading Place → List ℕ → Reading Place → Standing Place → Option U → End → Type 0
  IsSlotRun reading values to standing slot end =
      IsRunOfValues (intake rules slot_keeper) (with_keep reading None) values (with_keep to slot) standing end

  -- no unit is whole with these bytes
  runs_on : (reading : Reading Place) (values : List ℕ) (to : Reading Place) (slot : Option U)
      → RunsOn (intake rules slot_keeper) (with_keep reading None) values (with_keep to slot)
      → (to.place ≡ reading.place) × (to.begun ≡ reading.begun ++ values) × (slot ≡ None)
  runs_on reading values to slot on =
      let none : on.run.units ≡ [] = only_enough on.run.units on.on in (
        on.run.behind ∙ ap (λ (us : List U). place_after rules reading.place us) none,
        ap (λ (us : List U). spelling_of rules us ++ to.begun) (sym none) ∙ on.run.spelled,
        slot_none slot (rw (← none) (on.kept [] [] refl)),
      )

module _ {Place U : Type 0} (rules : Rules Place U) (bytes : List ℕ) (units : List U) (reading : Reading Place)
    (read : HasRead rules bytes units reading) where
  -- the machine can take a byte
  pub ready : IsUnfinished rules reading.place reading.begun
  ready = rw read.at_place read.cut.more

  read_on : (prefix : List ℕ) (to : Reading Place) (slot : Option U)
      → RunsOn (intake rules slot_keeper) (with_keep reading None) prefix (with_keep to slot)
      → HasRead rules (bytes ++ prefix) units to
  read_on prefix to slot on =
      let same = runs_on rules reading prefix to slot on in
      record {
        cut = record {
          chain = read.cut.chain;
          more = subst (λ (p : Place). IsUnfinished rules p to.begun) (same.0 ∙ read.at_place) on.run.unfinished;
          spelled = ap (λ (b : List ℕ). spelling_of rules units ++ b) same.1
              ∙ sym (append_assoc (spelling_of rules units) reading.begun prefix)
              ∙ ap (λ (b : List ℕ). b ++ prefix) read.cut.spelled;
        };
        at_place = same.0 ∙ read.at_place;
      }

  -- a body that these units are the beginning of
  module _ (free : IsPrefixFree rules) (begins : Begins rules) (body : List U)
      (chain : IsChain rules rules.first body) where
    pub read_all : bytes ≡ spelling_of rules body → units ≡ body
    read_all same = (one_cut rules free rules.first units body reading.begun [] read.cut.chain chain read.cut.more
        (begins _) (read.cut.spelled ∙ same ∙ sym (append-nil (spelling_of rules body)))).0

    -- none of its bytes is refused
    pub never_bad : (b : ℕ) (more : List ℕ) → bytes ++ b ∷ more ≡ spelling_of rules body
        → (IsPrefix rules reading.place (reading.begun ++ b ∷ []) → ⊥) → ⊥
    never_bad b more same bad = cut_bad rules free begins rules.first units body reading.begun b more read.cut.chain
        chain read.cut.more (rw (← read.at_place) bad) (sym same
        ∙ ap (λ (z : List ℕ). z ++ b ∷ more) (sym read.cut.spelled)
        ∙ append_assoc (spelling_of rules units) reading.begun (b ∷ more))

-- with these values one unit more is whole
pub record RanOne {Place U : Type 0} (rules : Rules Place U) (bytes : List ℕ) (units : List U)
    (reading : Reading Place) (values : List ℕ) (to : Reading Place) (standing : Standing Place) (unit : U)
    : Type 0 where
  pub stands : Stands rules reading.place unit
  pub one_more : HasRead rules (bytes ++ values) (units ++ unit ∷ []) to
  pub behind : to ≡ record { place = rules.after unit; begun = [] }
  pub is_at : IsAt rules to standing

module _ {Place U : Type 0} (rules : Rules Place U) (bytes : List ℕ) (units : List U) (reading : Reading Place)
    (read : HasRead rules bytes units reading) (values : List ℕ) (to : Reading Place) (standing : Standing Place)
    (slot : Option U) where
  abbrev Stops : Type 0
  Stops = StopsAtLast (intake rules slot_keeper) (with_keep reading None) values

  keeps_alone : (stop : Stops) (more : List U)
      → Keeps slot_keeper stop.before.keep slot more
      → holds_last slot more
  keeps_alone stop more keeps =
      let none = (runs_on rules reading stop.front stop.before.read stop.before.keep stop.on).2 in
      keeps [] [] (rw none refl)

  -- the bytes up to the run's end, and those behind them
  behind_last : (stop : Stops) (more : List ℕ)
      → (bytes ++ stop.front) ++ stop.last ∷ more ≡ (bytes ++ values) ++ more
  behind_last stop more = sym (append_assoc (bytes ++ stop.front) (stop.last ∷ []) more)
      ∙ ap (λ (z : List ℕ). z ++ more) (append_assoc bytes stop.front (stop.last ∷ [])
      ∙ ap (λ (v : List ℕ). bytes ++ v) (sym stop.split))

  -- the slot is empty: no unit is whole
  pub ran_none : (end : End) → IsSlotRun rules reading values to standing slot end → slot ≡ None
      → ((reason : Reason) → end ≡ Bad reason → ⊥) → HasRead rules (bytes ++ values) units to × IsAt rules to standing
  ran_none More run none good = (read_on rules bytes units reading read values to slot run.0, run.1)
  ran_none Enough run none good =
      absurd (let some = slot_is slot run.1 (keeps_alone run.0 (run.1 ∷ []) run.3) in cc)
  ran_none NoMemory run none good = absurd (let e = run.4 in cc)
  ran_none (Bad reason) run none good = absurd (good reason refl)

  -- it has the unit that is whole with the last byte
  pub ran_some : Begins rules → (end : End) → IsSlotRun rules reading values to standing slot end → (unit : U)
      → slot ≡ Some unit
      → RanOne rules bytes units reading values to standing unit
  ran_some begins More run unit some = absurd (let none = (runs_on rules reading values to slot run.0).2 in cc)
  ran_some begins Enough run unit some =
      let stop = run.0 in
      let found = slot_is slot run.1 (keeps_alone stop (run.1 ∷ []) run.3) in
      let same : run.1 ≡ unit = cc in
      let prefix = read_on rules bytes units reading read stop.front stop.before.read stop.before.keep stop.on in
      let place = (runs_on rules reading stop.front stop.before.read stop.before.keep stop.on).0 in
      let spelled = subst (λ (p : Place). IsSpelled rules p (stop.before.read.begun ++ stop.last ∷ []) run.1)
      prefix.at_place run.2 in
      let cut = cut_unit rules begins (bytes ++ stop.front) units stop.before.read.begun stop.last run.1 prefix.cut
      spelled in
      let all : (bytes ++ stop.front) ++ stop.last ∷ [] ≡ bytes ++ values =
      behind_last stop [] ∙ append-nil (bytes ++ values) in
      rw (← same) (record {
        stands = subst (λ (p : Place). Stands rules p run.1) place run.2.stands;
        one_more = record {
          cut = subst (λ (r : Reading Place). IsCut rules (bytes ++ values) (units ++ run.1 ∷ []) r.begun) (sym run.5)
              (subst (λ (b : List ℕ). IsCut rules b (units ++ run.1 ∷ []) []) all cut);
          at_place = ap (λ (r : Reading Place). r.place) run.5
              ∙ sym (place_after_more rules rules.first units run.1);
        };
        behind = run.5;
        is_at = run.6;
      })
  ran_some begins NoMemory run unit some = absurd (let e = run.4 in cc)
  ran_some begins (Bad reason) run unit some =
      absurd (let none = slot_none slot (keeps_alone run.0 [] run.3) in cc)
