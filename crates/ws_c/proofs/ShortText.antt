-- How long characters of a code page are

use Rattle.std.specs.Char.{len_utf8}
use Rattle.std.specs.Prelude.{encode_utf8}
use Rattle.std.proofs.Common.{◌≡◌, ℕ, ◌<◌, ◌≤◌, ◌⊎◌, inl, inr, length, arith, subst, sym}
use Rattle.std.proofs.lemmas.Str.{length-encode}
use Rattle.ws_screen.proofs.LineLemmas.{two_bytes}

-- one takes at most three bytes
pub three_bytes : (c : ℕ) → (c < 256) ⊎ (c ≡ 0x20AC) → length (encode_utf8 c) ≤ 3
three_bytes c short = elim short [
  | inl latin ↦ (let two = two_bytes c latin in omega (arith, two))
  | inr euro ↦ subst (λ (n : ℕ). length (encode_utf8 n) ≤ 3) (sym euro) (let n : len_utf8 0x20AC ≤ 3 = omega arith in
      omega (arith, length-encode 0x20AC, n))
]
