-- The nearest of the first words of a kind of lines.

use Rattle.std.specs.Prelude.{None, Some}
use Rattle.std.specs.Option.{is_some}
use Rattle.std.specs.Str.{chars}
use Rattle.std.proofs.Common.{◌≡◌, ◌<◌, ◌≤◌, ◌+◌, ◌/◌, ℕ, List, true, Option, arith, get_or, length, subst, sym, inl, inr, refl}
use Rattle.std.proofs.Math.Nat.{eq-or-lt_of_le}
use Rattle.std.proofs.lemmas.List.{get_or_default}
use Rattle.ws_text.specs.Names.{look_up}
use Rattle.ws_script.specs.cause.Causes.{IsKnown, apart}
use Rattle.ws_script.specs.cause.Vocabularies.{is_first, vocabulary_words}
use Rattle.ws_script.specs.declared.cause.Known.{Known as AKnown}
use Rattle.ws_script.specs.declared.cause.Known.TheVariants.{Near, With}
use Rattle.ws_script.specs.declared.cause.vocabulary.Vocabulary.{Vocabulary}
use Rattle.ws_script.proofs.WordTables.{Known, known_in, of_found, table}

-- what was found: nothing, with a limit past a third; or a first word, from which the word is apart by the limit
abbrev pub IsFound : Vocabulary → List ℕ → ℕ → Option AKnown → Type 0
IsFound v word below None = below ≡ length (chars word) / 3 + 1
IsFound v word below (Some (Near near)) = (is_first v near.now ≡ true) × (below ≡ apart word near.now)
    × (below ≤ length (chars word) / 3)
IsFound v word below (Some (With switch)) = ⊥

-- none of so many words is nearer than the limit
pub record NearSoFar (v : Vocabulary) (words : List Known) (word : List ℕ) (index below : ℕ) (found : Option AKnown) : Type 0 where
  pub each : (i : ℕ) (d : Known) → i < index → i < length words → below ≤ apart word (get_or words i d).0.now
  pub is : IsFound v word below found

module _ (v : Vocabulary) (words : List Known) (of : table words ≡ vocabulary_words v) (word : List ℕ) (index below : ℕ)
    (found : Option AKnown) (so_far : NearSoFar v words word index below found)
  where
    limited : (found : Option AKnown) → IsFound v word below found → below ≤ length (chars word) / 3 + 1
    limited None is = omega (arith, is)
    limited (Some (Near near)) is = omega (arith, is.2)
    limited (Some (With switch)) is = absurd is

    each_more : (limit : ℕ) (d : Known) → limit ≤ below → limit ≤ apart word (get_or words index d).0.now
        → (i : ℕ) (other : Known) → i < index + 1 → i < length words → limit ≤ apart word (get_or words i other).0.now
    each_more limit d lower next i other before within = elim (eq-or-lt_of_le {n = i} {m = index} (omega (arith, before))) [
      | inl same ↦ subst (λ k. limit ≤ apart word k.0.now) (get_or_default words i d other within)
          (subst (λ k. limit ≤ apart word (get_or words k d).0.now) (sym same) next)
      | inr earlier ↦ omega (arith, lower, so_far.each i other earlier within)
    ]

    -- the next word is nearer
    pub nearer : (d : Known) → index < length words → apart word (get_or words index d).0.now < below
        → NearSoFar v words word (index + 1) (apart word (get_or words index d).0.now) (Some (Near (get_or words index d).0))
    nearer d within near = record {
      each = each_more _ d (omega (arith, near)) (omega arith);
      is = (
        subst (λ all. is_some (look_up (get_or words index d).0.now all) ≡ true) of (known_in words index d within),
        refl,
        omega (arith, near, limited found so_far.is),
      );
    }

    -- it isn't
    pub no_nearer : (d : Known) → below ≤ apart word (get_or words index d).0.now
        → NearSoFar v words word (index + 1) below found
    no_nearer d far = record { each = each_more _ d (omega arith) far; is = so_far.is }

    -- what holds of each word holds of each first word
    of_first : (P : List ℕ → Type 0) (d : Known) → ((i : ℕ) → i < length words → P (get_or words i d).0.now)
        → (known : List ℕ) → is_first v known ≡ true → P known
    of_first P d each = subst (λ all. (known : List ℕ) → is_some (look_up known all) ≡ true → P known) of
        (of_found P words d each)

    -- all words were looked at
    pub nearest_of_all : (d : Known) → length words ≤ index → length (chars word) ≤ 36 → IsKnown v word found
    nearest_of_all d all short = is_known found so_far.is where
      is_known : (found : Option AKnown) → IsFound v word below found → IsKnown v word found
      is_known None is = inr (of_first (λ known. length (chars word) / 3 < apart word known) d
          (λ i within. omega (arith, so_far.each i d (omega (arith, all, within)) within, is)))
      is_known (Some (Near near)) is = (
        short,
        is.0,
        omega (arith, is.2, is.1),
        of_first
            (λ known. apart word near.now ≤ apart word known) d
            (λ i within. omega (arith, so_far.each i d (omega (arith, all, within)) within, is.1)),
      )
      is_known (Some (With switch)) is = absurd is
