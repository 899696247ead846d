use Rattle.std.specs.Prelude.{if◌then◌else◌, Result, Ok, Err, IfErr, OnOk, IsTrue, ◌↔◌, is_ok}
use mathlib.Core.Bool.{true≢false}
use Rattle.ws_code.specs.declared.fault.Fault.TheVariants as faults
use Rattle.ws_telnet.specs.Token.{token_rules}
use Rattle.ws_record.specs.Receiver.{HasReceived, IsTakeFault, Receiving}
use Rattle.ws_record.specs.Refusal.{IsRefused, IsTruncated}
use Rattle.ws_trace.proofs.Common.{length-append, IsUnfinished, TelnetToken, IsInGrammar, ReaderParts, StandsThere}
use Rattle.ws_trace.proofs.Common.{append-nil, IsSpelled, IsPrefix, IsNextOf, Refused, length, Reason, Passes, is_eor}
use Rattle.ws_trace.proofs.Common.{Fault, false, arith, Rules, Token, Reads, Whole, List, ◌++◌, Bool, true, None, Some}
use Rattle.ws_trace.proofs.Common.{refl, Data, Item, ◌≡◌, ◌+◌, ◌<◌, ◌^◌, ◌∷◌, inl, inr, not, sym, ◌∙◌, Eor, [], ap, ℕ}
use Rattle.ws_trace.specs.Readers.{IsFull}
use Rattle.ws_trace.specs.Reading.{StreamStanding, HoldsUnrefused, after_passed, after_refusal, ends_record}
use Rattle.ws_trace.specs.Reading.{told_of_passed, MayEndAt}

-- What a byte makes of a reader.

module _ {Place U : Type 0} (rules : Rules Place U) where
  received_holds : {receiver : Receiving Place U} {bytes : List ℕ} {items : List (Item U)}
      → HasReceived rules receiver bytes items → HoldsUnrefused rules bytes items
  received_holds h = ((h.leads.0, _, h.leads.1.holds), h.leads.1.opened)

  -- where a reader stands after a refused byte
  stands_after : (new : ReaderParts Place U) (is_over : Bool) → new.is_passing ≡ not is_over → new.begun ≡ []
      → HasReceived rules new.receiver [] [] → StandsThere rules new (if is_over then Reads [] [] else Passes [])
  stands_after new true on begun h = (on, omega arith, h)
  stands_after new false on begun h = (on, begun, h)

  -- and after a token that is passed over
  stands_behind : (new : ReaderParts Place U) (token : Token) → new.is_passing ≡ not (is_eor token) → new.begun ≡ []
      → HasReceived rules new.receiver [] [] → StandsThere rules new (after_passed token)
  stands_behind new (Data b) on begun h = (on, begun, h)
  stands_behind new Eor on begun h = (on, omega arith, h)
  stands_behind new (TelnetToken t) on begun h = (on, begun, h)

  module _ (old new : ReaderParts Place U) (byte : ℕ) where
    not_both : old.is_passing ≡ false → old.is_passing ≡ true → ⊥
    not_both reads passes = true≢false (sym passes ∙ reads)

    -- what is read: nothing is complete with the byte, an item is, or it is refused
    pub read_none : old.is_passing ≡ false → new.is_passing ≡ false
        → ((bytes : List ℕ) (items : List (Item U)) → HasReceived rules old.receiver bytes items
        → length bytes + 1 < 2 ^ 64 → (length bytes + 2 < 2 ^ 64)
        × HasReceived rules new.receiver (bytes ++ byte ∷ []) (items ++ []))
        → IsNextOf rules old new byte None
    read_none reads still more (Reads bytes items) s =
        let on = more bytes items s.2 s.1 in
        let got = rw (append-nil items) at on.1 in (
          Reads (bytes ++ byte ∷ []) items,
          (refl, received_holds got),
          (still, omega (arith, on.0, length-append bytes (byte ∷ [])), got),
        )
    read_none reads still more (Passes begun) s = absurd (not_both reads s.0)

    pub read_item : (item : Item U) → old.is_passing ≡ false → new.is_passing ≡ false
        → ((bytes : List ℕ) (items : List (Item U)) → HasReceived rules old.receiver bytes items
        → length bytes + 1 < 2 ^ 64 → (length bytes + 2 < 2 ^ 64)
        × HasReceived rules new.receiver (bytes ++ byte ∷ []) (items ++ item ∷ []))
        → IsNextOf rules old new byte (Some (Whole item))
    read_item item reads still more (Reads bytes items) s =
        let on = more bytes items s.2 s.1 in (
          Reads (bytes ++ byte ∷ []) (items ++ item ∷ []),
          (refl, received_holds on.1),
          (still, omega (arith, on.0, length-append bytes (byte ∷ [])), on.1),
        )
    read_item item reads still more (Passes begun) s = absurd (not_both reads s.0)

    pub read_refused : (place : ℕ) (reason : Reason) → old.is_passing ≡ false
        → new.is_passing ≡ not (ends_record reason) → new.begun ≡ [] → HasReceived rules new.receiver [] []
        → ((bytes : List ℕ) (items : List (Item U)) → HasReceived rules old.receiver bytes items
        → length bytes + 1 < 2 ^ 64 → (place ≡ length bytes) × IsRefused rules (bytes ++ byte ∷ []) place reason)
        → IsNextOf rules old new byte (Some (Refused reason))
    read_refused place reason reads on begun h refused (Reads bytes items) s =
        let is = refused bytes items s.2 s.1 in (
          after_refusal reason,
          (refl, (place, omega (arith, is.0, length-append bytes (byte ∷ [])), is.1)),
          stands_after new (ends_record reason) on begun h,
        )
    read_refused place reason reads on begun h refused (Passes begun_) s = absurd (not_both reads s.0)

    -- what is passed over: a token goes on with the byte, ends with it, or none goes on with it
    pub passed_more : old.is_passing ≡ true → new.is_passing ≡ true → new.receiver ≡ old.receiver
        → new.begun ≡ old.begun ++ byte ∷ [] → IsUnfinished token_rules tt (old.begun ++ byte ∷ [])
        → IsNextOf rules old new byte None
    passed_more passes still same begun inside (Reads bytes items) s = absurd (not_both s.0 passes)
    passed_more passes still same begun inside (Passes from) s = (
      Passes (from ++ byte ∷ []),
      inl (refl, refl, rw s.1 at inside),
      (still, begun ∙ ap (λ z. z ++ byte ∷ []) s.1, rw same s.2),
    )

    pub passed_token : (token : Token) → old.is_passing ≡ true → new.is_passing ≡ not (is_eor token)
        → new.receiver ≡ old.receiver → new.begun ≡ [] → IsSpelled token_rules tt (old.begun ++ byte ∷ []) token
        → IsNextOf rules old new byte (told_of_passed token)
    passed_token token passes on same begun spelled (Reads bytes items) s = absurd (not_both s.0 passes)
    passed_token token passes on same begun spelled (Passes from) s = (
      after_passed token,
      inr (inl (token, refl, refl, rw s.1 at spelled)),
      stands_behind new token on begun (rw same s.2),
    )

    pub passed_refused : (reason : Reason) → old.is_passing ≡ true → new.is_passing ≡ true
        → new.receiver ≡ old.receiver → new.begun ≡ []
        → (IsPrefix token_rules tt (old.begun ++ byte ∷ []) → ⊥) × (reason ≡ token_rules.reason tt old.begun byte)
        → IsNextOf rules old new byte (Some (Refused reason))
    passed_refused reason passes still same begun bad (Reads bytes items) s = absurd (not_both s.0 passes)
    passed_refused reason passes still same begun bad (Passes from) s = (
      Passes [],
      inr (inr (
        ap (λ (r : Reason). Some (Refused r)) (bad.1 ∙ ap (λ z. token_rules.reason tt z byte) s.1),
        refl,
        rw s.1 at bad.0,
      )),
      (still, begun, rw same s.2),
    )

  -- a receiver has no other fault
  no_other : (bytes : List ℕ) (items : List (Item U)) (byte : ℕ) (fault : Fault)
      → ((place : ℕ) (reason : Reason) → fault ≡ faults.Refused place reason → ⊥) → (fault ≡ faults.Memory → ⊥)
      → IsTakeFault rules bytes items byte fault → ⊥
  no_other bytes items byte (faults.Refused place reason) refused memory h = refused place reason refl
  no_other bytes items byte faults.Memory refused memory h = memory refl
  no_other bytes items byte fault refused memory h = h

  -- so that such a reader stands nowhere
  pub stands_nowhere : (old : ReaderParts Place U) (byte : ℕ) (fault : Fault)
      → ((place : ℕ) (reason : Reason) → fault ≡ faults.Refused place reason → ⊥) → (fault ≡ faults.Memory → ⊥)
      → old.is_passing ≡ false
      → ((bytes : List ℕ) (items : List (Item U)) → HasReceived rules old.receiver bytes items
      → length bytes + 1 < 2 ^ 64 → IsTakeFault rules bytes items byte fault) → IsFull rules old
  stands_nowhere old byte fault refused memory reads is (Reads bytes items) s =
      absurd (no_other bytes items byte fault refused memory (is bytes items s.2 s.1))
  stands_nowhere old byte fault refused memory reads is (Passes begun) s = absurd (true≢false (sym s.0 ∙ reads))

  -- whether a stream may end where a reader stands
  pub ends_there : (Same : Type 0) (reader : ReaderParts Place U) (result : Result (Unit {0}) Fault)
      → reader.is_passing ≡ false
      → OnOk result (Same × ((bytes : List ℕ) (items : List (Item U)) → HasReceived rules reader.receiver bytes items
      → IsInGrammar rules bytes items))
      → IfErr result (λ fault. (bytes : List ℕ) (items : List (Item U)) → HasReceived rules reader.receiver bytes items
      → length bytes + 1 < 2 ^ 64 → (fault ≡ faults.Truncated (length bytes)) × IsTruncated rules bytes)
      → (at : StreamStanding U) → StandsThere rules reader at → IsTrue (is_ok result) ↔ MayEndAt rules at
  ends_there Same reader (Ok done) reads ok err (Reads bytes items) s = (λ _. ok.1 bytes items s.2, λ _. refl)
  ends_there Same reader (Err fault) reads ok err (Reads bytes items) s =
      (λ (e : false ≡ true). absurd (true≢false (sym e)), λ g. absurd ((err bytes items s.2 s.1).1.unfinished items g))
  ends_there Same reader result reads ok err (Passes begun) s = absurd (true≢false (sym s.0 ∙ reads))
