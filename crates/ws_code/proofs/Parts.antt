use Rattle.std.specs.List.{flat_map}
use Rattle.std.proofs.Common.{◌≡◌, ℕ, List, [], ◌++◌, take, drop, ◌<◌, length, ◌+◌, get_or}
use Rattle.std.proofs.lemmas.List.{append-nil}
use Rattle.ws_code.specs.Device.{Writer, WentOut, FailedWithin}
use Rattle.ws_code.proofs.DeviceLaws.{went_out_none, went_out_both, failed_within_both}
use Rattle.ws_code.proofs.Lists.{spelled_more, spelled_through}

-- Texts that go out in parts: element by element, or in three.

module _ {S : Type 0} (writer : Writer S) where
  -- a write that failed in the first part of a text
  pub fails_first : (from to : S) (xs ys : List ℕ) → FailedWithin writer from to xs
      → FailedWithin writer from to (xs ++ ys)
  fails_first from to xs ys f =
      failed_within_both writer from from to [] xs ys (went_out_none writer from) f

  -- one that failed in the last
  pub fails_last : (from mid to : S) (xs ys : List ℕ) → WentOut writer from mid xs
      → FailedWithin writer mid to ys → FailedWithin writer from to (xs ++ ys)
  fails_last from mid to xs ys p f =
      rw (append-nil ys) at (failed_within_both writer from mid to xs ys [] p f)

  -- A list goes out element by element.
  module _ {X : Type 0} (spell : X → List ℕ) {from mid to : S} (xs : List X) (i : ℕ) (x : X) (k : i < length xs)
      (e : x ≡ get_or xs i x) (p : WentOut writer from mid (flat_map spell (take i xs))) where
    pub each_more : WentOut writer mid to (spell x)
        → WentOut writer from to (flat_map spell (take (i + 1) xs))
    each_more q = rw (spelled_more spell xs i x k e) (went_out_both writer _ _ _ _ _ p q)

    pub each_fails : FailedWithin writer mid to (spell x)
        → FailedWithin writer from to (flat_map spell xs)
    each_fails f =
        rw (spelled_through spell xs i x k e) at (fails_first _ _ _ (flat_map spell (drop (i + 1) xs))
        (fails_last _ _ _ _ _ p f))

  -- A text goes out in three parts.
  module _ {from to : S} {a text : List ℕ} (b c : List ℕ) (e : a ++ (b ++ c) ≡ text) where
    pub three_out : {s t : S} → WentOut writer from s a → WentOut writer s t b
        → WentOut writer t to c → WentOut writer from to text
    three_out p q r = rw e at (went_out_both writer _ _ _ _ _ p (went_out_both writer _ _ _ _ _ q r))

    pub first_fails : FailedWithin writer from to a → FailedWithin writer from to text
    first_fails f = rw e at (fails_first _ _ a (b ++ c) f)

    pub second_fails : {s : S} → WentOut writer from s a → FailedWithin writer s to b
        → FailedWithin writer from to text
    second_fails p f = rw e at (failed_within_both writer _ _ _ a b c p f)

    pub third_fails : {s t : S} → WentOut writer from s a → WentOut writer s t b
        → FailedWithin writer t to c → FailedWithin writer from to text
    third_fails p q f = rw e at (fails_last _ _ _ _ _ p (fails_last _ _ _ _ _ q f))
