-- Bytes with each FF doubled, as they go out in runs.
use Rattle.std.specs.List.{flat_map}
use Rattle.std.proofs.Common.{◌≡◌, ℕ, List, [], ◌∷◌, ◌++◌, take, drop, refl, sym, ap, ◌∙◌, append_assoc, ◌<◌, length}
use Rattle.std.proofs.Common.{◌≤◌, arith, ◌+◌, get_or}
use Rattle.std.proofs.lemmas.Grind.{flat_map-append}
use Rattle.std.proofs.lemmas.List.{append-nil, take-append-drop, take_more, take_all}
use Rattle.ws_code.specs.Device.{Writer, WentOut, FailedWithin}
use Rattle.ws_code.proofs.DeviceLaws.{went_out_both, failed_within_both}
use Rattle.ws_code.proofs.Lists.{run, run_more, run_none}
use Rattle.ws_code.proofs.Parts.{fails_last}
use Rattle.ws_telnet.specs.Token.{doubled}

pub doubled_more : (bytes : List ℕ) (at : ℕ) → at < length bytes → flat_map doubled (take (at + 1) bytes)
    ≡ flat_map doubled (take at bytes) ++ doubled (get_or bytes at 0)
doubled_more bytes at k =
    rw (take_more bytes at 0 k, flat_map-append doubled (take at bytes), append-nil (doubled (get_or bytes at 0)))

pub doubled_all : (bytes : List ℕ) (at : ℕ) → flat_map doubled (take at bytes) ++ flat_map doubled (drop at bytes)
    ≡ flat_map doubled bytes
doubled_all bytes at = rw (← flat_map-append doubled (take at bytes) (drop at bytes), take-append-drop)

-- each element's spelling doubled
pub doubled_each : {X : Type 0} (spell : X → List ℕ) (xs : List X) → flat_map doubled (flat_map spell xs)
    ≡ flat_map (λ x. flat_map doubled (spell x)) xs
doubled_each spell [] = refl
doubled_each spell (x ∷ xs) = flat_map-append doubled (spell x) (flat_map spell xs)
    ∙ ap (λ z. flat_map doubled (spell x) ++ z) (doubled_each spell xs)

module _ {S : Type 0} (writer : Writer S) where
  -- What the runs so far leave: they went out, and with the run that is open they are the bytes so far, doubled.
  pub record IsDoubling (from to : S) (bytes : List ℕ) (start at : ℕ) : Type 0 where
    pub out : List ℕ
    pub went_out : WentOut writer from to out
    pub within : start ≤ at
    pub text : out ++ run bytes start at ≡ flat_map doubled (take at bytes)

  module _ {from mid : S} {bytes : List ℕ} {start at : ℕ} (d : IsDoubling from mid bytes start at) where
    -- what has gone out with the run through the next byte
    through : at < length bytes → d.out ++ run bytes start (at + 1)
        ≡ flat_map doubled (take at bytes) ++ get_or bytes at 0 ∷ []
    through k = rw (run_more bytes start at d.within k, ← append_assoc d.out (run bytes start at), d.text)

    -- a byte that isn't doubled
    pub doubling_plain : at < length bytes → doubled (get_or bytes at 0) ≡ get_or bytes at 0 ∷ []
        → IsDoubling from mid bytes start (at + 1)
    doubling_plain k plain = record {
      out = d.out;
      went_out = d.went_out;
      within = omega (arith, d.within);
      text = through k ∙ sym (rw (doubled_more bytes at k, plain));
    }

    -- one that is
    pub doubling_iac : {to : S} → at < length bytes → get_or bytes at 0 ≡ 0xff
        → WentOut writer mid to (run bytes start (at + 1)) → IsDoubling from to bytes at (at + 1)
    doubling_iac k iac p = record {
      out = d.out ++ run bytes start (at + 1);
      within = omega arith;
      went_out = went_out_both writer _ _ _ _ _ d.went_out p;
      text = rw (through k, run_more bytes at at (omega arith) k, run_none bytes at, doubled_more bytes at k, iac)
          (simp append_assoc);
    }

    pub doubling_fails : {to : S} → at < length bytes → get_or bytes at 0 ≡ 0xff
        → FailedWithin writer mid to (run bytes start (at + 1))
        → FailedWithin writer from to (flat_map doubled bytes)
    doubling_fails k iac f =
        let rest : List ℕ = 0xff ∷ flat_map doubled (drop (at + 1) bytes) in
        let text : d.out ++ (run bytes start (at + 1) ++ rest) ≡ flat_map doubled bytes = rw (
          ← append_assoc d.out (run bytes start (at + 1)) rest,
          through k,
          ← doubled_all bytes (at + 1),
          doubled_more bytes at k,
          iac,
        ) (simp append_assoc) in
        rw (← text) (failed_within_both writer _ _ _ _ _ rest d.went_out f)

    -- the last run
    doubling_text : length bytes ≤ at → d.out ++ run bytes start at ≡ flat_map doubled bytes
    doubling_text h = d.text ∙ ap (flat_map doubled) (take_all at bytes h)

    pub doubling_ends : {to : S} → length bytes ≤ at → WentOut writer mid to (run bytes start at)
        → WentOut writer from to (flat_map doubled bytes)
    doubling_ends h p = rw (doubling_text h) at (went_out_both writer _ _ _ _ _ d.went_out p)

    pub doubling_ends_failed : {to : S} → length bytes ≤ at → FailedWithin writer mid to (run bytes start at)
        → FailedWithin writer from to (flat_map doubled bytes)
    doubling_ends_failed h f = rw (doubling_text h) at (fails_last writer _ _ _ _ _ d.went_out f)
