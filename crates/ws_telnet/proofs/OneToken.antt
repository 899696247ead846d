-- One token: what spells it, and what begins it.
use Rattle.std.proofs.Common.{◌≡◌, ℕ, List, [], ◌∷◌, ◌++◌, refl, ◌<◌, ◌≢◌, ne_eqb}
use Rattle.ws_code.specs.Code.{IsSpelled, IsUnfinished}
use Rattle.ws_telnet.specs.Machine.{unfinished_token}
use Rattle.ws_telnet.specs.Token.{token_rules, token_spelling, IsToken}
use Rattle.ws_telnet.specs.TokenLaws.{doubled_plain, token_begins}
use Rattle.ws_telnet.specs.Words.{IsWord}
use Rattle.ws_telnet.specs.declared.token.Token.{Token}
use Rattle.ws_telnet.specs.declared.token.Token.TheVariants.{Data}
use Rattle.ws_telnet.specs.declared.tokens.Tokens.{Tokens}
use Rattle.ws_telnet.specs.declared.word.Word.{Word}
use Rattle.ws_telnet.specs.declared.word.Word.TheVariants as word

-- a token whose spelling this is, and one that goes on
pub is_token : {t : Token} {bytes : List ℕ} → IsToken t → token_spelling t ≡ bytes → IsSpelled token_rules tt bytes t
is_token is e = record { stands = record { is_unit = is; may_follow = refl }; spelled = e }

pub begins_token : (t : Token) {begun : List ℕ} (next : ℕ) (rest : List ℕ) → IsToken t
    → token_spelling t ≡ begun ++ next ∷ rest → IsUnfinished token_rules tt begun
begins_token t next rest is e = record {
  unit = t;
  next = next;
  rest = rest;
  stands = record { is_unit = is; may_follow = refl };
  spelled = e;
}

-- between tokens a byte other than FF is a token
pub plain_byte : (b : ℕ) → b < 256 → b ≢ 0xff → IsSpelled token_rules tt (b ∷ []) (Data b)
plain_byte b fits ne = record
    { stands = record { is_unit = fits; may_follow = refl }; spelled = doubled_plain b (ne_eqb b 0xff ne) }

pub fresh_begins : (machine : Tokens) → unfinished_token machine ≡ []
    → IsUnfinished token_rules tt (unfinished_token machine)
fresh_begins machine e = rw e (token_begins tt)

-- a machine is inside a token, or between two
pub word_begun : (machine : Tokens) (begun : List ℕ) (b : ℕ) (w : Word) → IsWord begun b machine w
    → IsUnfinished token_rules tt (unfinished_token machine)
word_begun machine begun b word.More i = i.1
word_begun machine begun b (word.Bad reason) i = fresh_begins _ i.2
word_begun machine begun b w i = fresh_begins _ i.1
