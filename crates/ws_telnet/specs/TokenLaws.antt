-- The laws of the code of tokens, proved.

use Rattle.std.specs.Prelude.{if◌then◌else◌}
use Rattle.std.specs.Prelude.{◌≡◌, ◌≢◌, ℕ, ◌<◌, ◌≤◌, ◌==◌, List, [], ◌∷◌, ◌++◌, ◌⊎◌, length, false, refl}
use Rattle.std.proofs.Common.{inl, inr, sym, ap, ◌∙◌, subst, arith, append_assoc}
use Rattle.std.specs.List.{flat_map}
use Rattle.std.proofs.lemmas.Bool.Decides.{eqb_tells}
use Rattle.std.proofs.lemmas.List.{append-nil}
use Rattle.ws_code.specs.Code.{IsPrefixFree, IsUnfinished, AreBytes}
use Rattle.ws_code.proofs.CodeLaws.{AreBytes-append}
use Rattle.ws_telnet.specs.Token.{token_rules, IsToken, token_spelling, telnet_spelling, doubled, command_byte}
use Rattle.ws_telnet.specs.Token.{verb_byte}
use Rattle.ws_telnet.specs.declared.token.CommandCode.{CommandCode}
use Rattle.ws_telnet.specs.declared.token.CommandCode.TheVariants.{Nop, DataMark, Break, InterruptProcess, AbortOutput}
use Rattle.ws_telnet.specs.declared.token.CommandCode.TheVariants.{AreYouThere, EraseCharacter, EraseLine, GoAhead}
use Rattle.ws_telnet.specs.declared.token.Verb.{Verb}
use Rattle.ws_telnet.specs.declared.token.Verb.TheVariants.{Will, Wont, Do, Dont}
use Rattle.ws_telnet.specs.declared.token.Sub.{Sub}
use Rattle.ws_telnet.specs.declared.token.Telnet.TheVariants.{Command, Option as Negotiate, Sub as Subnegotiate}
use Rattle.ws_telnet.specs.declared.token.Token.{Token}
use Rattle.ws_telnet.specs.declared.token.Token.TheVariants.{Data, Eor, Telnet as TelnetToken}

-- the test of a byte
pub iac_or_not : (b : ℕ) → (b ≡ 0xff) ⊎ ((b ≢ 0xff) × ((b == 0xff) ≡ false))
iac_or_not b = elim (eqb_tells b 0xff) [ inl h ↦ inl h.1 | inr h ↦ inr (h.1, h.0) ]

-- a plain byte stands for itself
pub doubled_plain : (b : ℕ) → (b == 0xff) ≡ false → doubled b ≡ b ∷ []
doubled_plain b h = rw h

-- a command's code is F1 or above (RFC 854)
pub command_low : (code : CommandCode) → 0xf1 ≤ command_byte code
command_low Nop = omega arith
command_low DataMark = omega arith
command_low Break = omega arith
command_low InterruptProcess = omega arith
command_low AbortOutput = omega arith
command_low AreYouThere = omega arith
command_low EraseCharacter = omega arith
command_low EraseLine = omega arith
command_low GoAhead = omega arith

-- a command's code is F9 or below (RFC 854)
pub command_high : (code : CommandCode) → command_byte code ≤ 0xf9
command_high Nop = omega arith
command_high DataMark = omega arith
command_high Break = omega arith
command_high InterruptProcess = omega arith
command_high AbortOutput = omega arith
command_high AreYouThere = omega arith
command_high EraseCharacter = omega arith
command_high EraseLine = omega arith
command_high GoAhead = omega arith

-- the code of WILL, WONT, DO or DONT is FB or above (RFC 854)
pub verb_low : (verb : Verb) → 0xfb ≤ verb_byte verb
verb_low Will = omega arith
verb_low Wont = omega arith
verb_low Do = omega arith
verb_low Dont = omega arith

-- the code of WILL, WONT, DO or DONT is FE or below (RFC 854)
pub verb_high : (verb : Verb) → verb_byte verb ≤ 0xfe
verb_high Will = omega arith
verb_high Wont = omega arith
verb_high Do = omega arith
verb_high Dont = omega arith

-- from a code's byte to the code, so that two codes with one byte are one
code_at : ℕ → CommandCode
code_at n =
    if n == 0xf1 then Nop
    else if n == 0xf2 then DataMark
    else if n == 0xf3 then Break
    else if n == 0xf4 then InterruptProcess
    else if n == 0xf5 then AbortOutput
    else if n == 0xf6 then AreYouThere
    else if n == 0xf7 then EraseCharacter
    else if n == 0xf8 then EraseLine
    else GoAhead

code_again : (code : CommandCode) → code_at (command_byte code) ≡ code
unfolding code_at
code_again Nop = refl
code_again DataMark = refl
code_again Break = refl
code_again InterruptProcess = refl
code_again AbortOutput = refl
code_again AreYouThere = refl
code_again EraseCharacter = refl
code_again EraseLine = refl
code_again GoAhead = refl

command_same : (c d : CommandCode) → command_byte c ≡ command_byte d → c ≡ d
command_same c d e = sym (code_again c) ∙ ap code_at e ∙ code_again d

verb_at : ℕ → Verb
verb_at n =
    if n == 0xfb then Will
    else if n == 0xfc then Wont
    else if n == 0xfd then Do
    else Dont

verb_again : (verb : Verb) → verb_at (verb_byte verb) ≡ verb
unfolding verb_at
verb_again Will = refl
verb_again Wont = refl
verb_again Do = refl
verb_again Dont = refl

verb_same : (c d : Verb) → verb_byte c ≡ verb_byte d → c ≡ d
verb_same c d e = sym (verb_again c) ∙ ap verb_at e ∙ verb_again d

-- data isn't a token that begins with FF and another byte
not_data : (b s : ℕ) (x y : List ℕ) → s ≢ 0xff → doubled b ++ x ≡ 0xff ∷ s ∷ y → ⊥
not_data b s x y ne e = elim (iac_or_not b) [
  | inl h ↦ let f : 0xff ∷ 0xff ∷ x ≡ 0xff ∷ s ∷ y = ap (λ n. doubled n ++ x) (sym h) ∙ e in let g : 0xff ≡ s = cc in
      ne (sym g)
  | inr h ↦ let f : b ∷ x ≡ 0xff ∷ s ∷ y = ap (λ l. l ++ x) (sym (doubled_plain b h.1)) ∙ e in h.0 (cc)
]

same_data : (b c : ℕ) (x y : List ℕ) → doubled b ++ x ≡ doubled c ++ y → (b ≡ c) × (x ≡ y)
same_data b c x y e = elim (iac_or_not b) [
  | inl h ↦ elim (iac_or_not c) [
    | inl k ↦ let f : 0xff ∷ 0xff ∷ x ≡ 0xff ∷ 0xff
        ∷ y = ap (λ n. doubled n ++ x) (sym h) ∙ e ∙ ap (λ n. doubled n ++ y) k in (h ∙ sym k, cc)
    | inr k ↦ let f : 0xff ∷ 0xff ∷ x ≡ c
        ∷ y = ap (λ n. doubled n ++ x) (sym h) ∙ e ∙ ap (λ l. l ++ y) (doubled_plain c k.1) in absurd (k.0 (cc))
  ]
  | inr h ↦ elim (iac_or_not c) [
    | inl k ↦ let f : b ∷ x ≡ 0xff ∷ 0xff
        ∷ y = ap (λ l. l ++ x) (sym (doubled_plain b h.1)) ∙ e ∙ ap (λ n. doubled n ++ y) k in absurd (h.0 (cc))
    | inr k ↦ let f : b ∷ x ≡ c
        ∷ y = ap (λ l. l ++ x) (sym (doubled_plain b h.1)) ∙ e ∙ ap (λ l. l ++ y) (doubled_plain c k.1) in (cc, cc)
  ]
]

-- Content before FF F0 that begins with other content has it at its front.
pub content_front : (xs ys tail : List ℕ) → flat_map doubled xs ++ 0xff ∷ 0xf0 ∷ [] ≡ flat_map doubled ys ++ tail
    → (zs : List ℕ) × (xs ≡ ys ++ zs) × (flat_map doubled zs ++ 0xff ∷ 0xf0 ∷ [] ≡ tail)
content_front xs [] tail e = (xs, refl, e)
content_front [] (y
    ∷ ys) tail e = absurd (not_data y 0xf0 (flat_map doubled ys
    ++ tail) [] (omega arith) (sym (append_assoc (doubled y) (flat_map doubled ys) tail) ∙ sym e))
content_front (x ∷ xs) (y ∷ ys) tail e =
    let both : (x ≡ y)
    × (flat_map doubled xs ++ 0xff ∷ 0xf0 ∷ [] ≡ flat_map doubled ys
    ++ tail) = same_data x y _ _ (sym (append_assoc (doubled x) (flat_map doubled xs) (0xff ∷ 0xf0
    ∷ [])) ∙ e ∙ append_assoc (doubled y) (flat_map doubled ys) tail) in
    let found : (zs : List ℕ) × (xs ≡ ys ++ zs)
    × (flat_map doubled zs ++ 0xff ∷ 0xf0 ∷ [] ≡ tail) = content_front xs ys tail both.1 in
    (found.0, (let p = both.0 in let q = found.1 in cc), found.2)

-- what stands before a whole data byte isn't the end of it
pub content_left : (zs rest : List ℕ) (b : ℕ) → flat_map doubled zs ++ 0xff ∷ 0xf0 ∷ [] ≡ doubled b ++ rest
    → 0 < length zs
content_left [] rest b e = absurd (not_data b 0xf0 rest [] (omega arith) (sym e))
content_left (z ∷ zs) rest b e = omega arith

-- an FF before another byte than FF is the end
pub content_end : (zs rest : List ℕ) (c : ℕ) → c ≢ 0xff → flat_map doubled zs ++ 0xff ∷ 0xf0 ∷ [] ≡ 0xff ∷ c ∷ rest
    → (zs ≡ []) × (c ≡ 0xf0)
content_end [] rest c ne e = (refl, (let f : 0xf0 ≡ c = cc in sym f))
content_end (z
    ∷ zs) rest c ne e = absurd (not_data z c (flat_map doubled zs
    ++ 0xff ∷ 0xf0 ∷ []) rest ne (sym (append_assoc (doubled z) (flat_map doubled zs) (0xff ∷ 0xf0 ∷ [])) ∙ e))

-- a subnegotiation's bytes are those of a Sub
pub in_sub : (t : Token) (option : ℕ) (rest : List ℕ) → IsToken t → token_spelling t ≡ 0xff ∷ 0xfa ∷ option ∷ rest
    → (xs : List ℕ) × (option < 256) × (length xs ≤ 64) × AreBytes xs × (flat_map doubled xs ++ 0xff ∷ 0xf0 ∷ [] ≡ rest)
in_sub (Data b) option rest h e = absurd (not_data b 0xfa [] (option ∷ rest) (omega arith) (append-nil (doubled b) ∙ e))
in_sub Eor option rest h e = let f : ◌≡◌ {A = ℕ} 0xef 0xfa = cc in absurd (omega arith)
in_sub (TelnetToken (Command code)) option rest h e = let f : command_byte code ≡ 0xfa = cc in
    absurd (omega (arith, command_high code))
in_sub (TelnetToken (Negotiate verb o)) option rest h e = let f : verb_byte verb ≡ 0xfa = cc in
    absurd (omega (arith, verb_low verb))
in_sub (TelnetToken (Subnegotiate sub)) option rest h e = let f : sub.option ≡ option = cc in
    (sub.data_, subst (λ (n : ℕ). n < 256) f h.0, h.1, h.2, cc)

doubled_bytes : (b : ℕ) → b < 256 → AreBytes (doubled b)
doubled_bytes b h = elim (iac_or_not b) [
  | inl k ↦ subst (λ (n : ℕ). AreBytes (doubled n)) (sym k) (omega arith, (omega arith, tt))
  | inr k ↦ rw (doubled_plain b k.1) (h, tt)
]

content_bytes : (xs : List ℕ) → AreBytes xs → AreBytes (flat_map doubled xs)
content_bytes [] h = tt
content_bytes (x
    ∷ xs) h = AreBytes-append (doubled x) (flat_map doubled xs) (doubled_bytes x h.0) (content_bytes xs h.1)

-- each token is spelled by at least one byte
pub token_nonempty : (t : Token) → IsToken t → token_spelling t ≢ []
token_nonempty (Data b) h e = elim (iac_or_not b) [
  | inl k ↦ let f : ◌≡◌ {A = List ℕ} (0xff ∷ 0xff ∷ []) [] = ap doubled (sym k) ∙ e in cc
  | inr k ↦ let f : b ∷ [] ≡ [] = sym (doubled_plain b k.1) ∙ e in cc
]
token_nonempty Eor h e = cc
token_nonempty (TelnetToken (Command code)) h e = cc
token_nonempty (TelnetToken (Negotiate verb option)) h e = cc
token_nonempty (TelnetToken (Subnegotiate sub)) h e = cc

-- a token's spelling is of bytes
pub token_bytes_are : (t : Token) → IsToken t → AreBytes (token_spelling t)
token_bytes_are (Data b) h = doubled_bytes b h
token_bytes_are Eor h = (omega arith, (omega arith, tt))
token_bytes_are (TelnetToken (Command code)) h = (omega arith, (omega (arith, command_high code), tt))
token_bytes_are (TelnetToken (Negotiate verb option)) h = (omega arith, (omega (arith, verb_high verb), (h, tt)))
token_bytes_are (TelnetToken (Subnegotiate sub)) h = (
  omega arith,
  (
    omega arith,
    (
      h.0,
      AreBytes-append (flat_map doubled sub.data_) (0xff ∷ 0xf0
          ∷ []) (content_bytes sub.data_ h.2) (omega arith, (omega arith, tt)),
    ),
  ),
)

same_sub : (s t : Sub) (rest : List ℕ) → telnet_spelling (Subnegotiate t) ≡ telnet_spelling (Subnegotiate s) ++ rest
    → s ≡ t
same_sub s t rest e =
    let option : t.option ≡ s.option = cc in
    let content : flat_map doubled t.data_ ++ 0xff ∷ 0xf0 ∷ [] ≡ flat_map doubled s.data_
    ++ 0xff ∷ 0xf0
    ∷ rest = (let f : flat_map doubled t.data_ ++ 0xff ∷ 0xf0 ∷ [] ≡ flat_map doubled s.data_ ++ 0xff ∷ 0xf0 ∷ []
    ++ rest = cc in f ∙ append_assoc (flat_map doubled s.data_) (0xff ∷ 0xf0 ∷ []) rest) in
    let found : (zs : List ℕ) × (t.data_ ≡ s.data_ ++ zs)
    × (flat_map doubled zs ++ 0xff ∷ 0xf0 ∷ [] ≡ 0xff ∷ 0xf0 ∷ rest) = content_front t.data_ s.data_ _ content in
    let none : found.0 ≡ [] = (content_end found.0 rest 0xf0 (omega arith) found.2).0 in
    let same : t.data_ ≡ s.data_ = found.1 ∙ ap (λ z. s.data_ ++ z) none ∙ append-nil s.data_ in
    sym (ap (λ (o : ℕ). let r : Sub = record { option = o; data_ = t.data_ } in
    r) option ∙ ap (λ (d : List ℕ). let r : Sub = record { option = s.option; data_ = d } in r) same)

-- no token's spelling begins another's
pub token_prefix_free : IsPrefixFree token_rules
token_prefix_free place (Data b)
    (Data c) rest hu hv e = ap Data (same_data b c rest [] (sym e ∙ sym (append-nil (doubled c)))).0
token_prefix_free place (Data b) Eor rest hu hv e = absurd (not_data b 0xef rest [] (omega arith) (sym e))
token_prefix_free place (Data b)
    (TelnetToken (Command code)) rest hu hv e = absurd (not_data b (command_byte code) rest [] (omega (
      arith,
      command_high code,
    )) (sym e))
token_prefix_free place (Data b)
    (TelnetToken (Negotiate verb o)) rest hu hv e = absurd (not_data b (verb_byte verb) rest (o
    ∷ []) (omega (arith, verb_high verb)) (sym e))
token_prefix_free place (Data b)
    (TelnetToken (Subnegotiate s)) rest hu hv e = absurd (not_data b 0xfa rest _ (omega arith) (sym e))
token_prefix_free place Eor (Data c) rest hu hv e = absurd (not_data c 0xef [] rest (omega arith)
    (append-nil (doubled c) ∙ e))
token_prefix_free place Eor Eor rest hu hv e = refl
token_prefix_free place Eor (TelnetToken (Command code)) rest hu hv e = let f : command_byte code ≡ 0xef = cc in
    absurd (omega (arith, command_low code))
token_prefix_free place Eor (TelnetToken (Negotiate verb o)) rest hu hv e = let f : verb_byte verb ≡ 0xef = cc in
    absurd (omega (arith, verb_low verb))
token_prefix_free place Eor (TelnetToken (Subnegotiate s)) rest hu hv e = let f : ◌≡◌ {A = ℕ} 0xfa 0xef = cc in
    absurd (omega arith)
token_prefix_free place (TelnetToken (Command code))
    (Data c) rest hu hv e = absurd (not_data c (command_byte code) [] rest (omega (arith, command_high code))
    (append-nil (doubled c) ∙ e))
token_prefix_free place (TelnetToken (Command code)) Eor rest hu hv e = let f : 0xef ≡ command_byte code = cc in
    absurd (omega (arith, command_low code))
token_prefix_free place (TelnetToken (Command code))
    (TelnetToken (Command code')) rest hu hv e = ap (λ c. TelnetToken (Command c))
    (command_same code code' (let f : command_byte code' ≡ command_byte code = cc in sym f))
token_prefix_free place (TelnetToken (Command code))
    (TelnetToken (Negotiate verb o)) rest hu hv e = let f : verb_byte verb ≡ command_byte code = cc in
    absurd (omega (arith, verb_low verb, command_high code))
token_prefix_free place (TelnetToken (Command code)) (TelnetToken (Subnegotiate s)) rest hu hv e = let f : 0xfa
    ≡ command_byte code = cc in absurd (omega (arith, command_high code))
token_prefix_free place (TelnetToken (Negotiate verb o))
    (Data c) rest hu hv e = absurd (not_data c (verb_byte verb) [] (o
    ∷ rest) (omega (arith, verb_high verb)) (append-nil (doubled c) ∙ e))
token_prefix_free place (TelnetToken (Negotiate verb o)) Eor rest hu hv e = let f : 0xef ≡ verb_byte verb = cc in
    absurd (omega (arith, verb_low verb))
token_prefix_free place (TelnetToken (Negotiate verb o))
    (TelnetToken (Command code)) rest hu hv e = let f : command_byte code ≡ verb_byte verb = cc in
    absurd (omega (arith, verb_low verb, command_high code))
token_prefix_free place (TelnetToken (Negotiate verb o)) (TelnetToken (Negotiate verb' o')) rest hu hv e =
    let v : verb ≡ verb' = verb_same verb verb' (let f : verb_byte verb' ≡ verb_byte verb = cc in sym f) in
    let p : o' ≡ o = cc in cc
token_prefix_free place (TelnetToken (Negotiate verb o)) (TelnetToken (Subnegotiate s)) rest hu hv e = let f : 0xfa
    ≡ verb_byte verb = cc in absurd (omega (arith, verb_low verb))
token_prefix_free place (TelnetToken (Subnegotiate s))
    (Data c) rest hu hv e = absurd (not_data c 0xfa [] _ (omega arith) (append-nil (doubled c) ∙ e))
token_prefix_free place (TelnetToken (Subnegotiate s)) Eor rest hu hv e = let f : ◌≡◌ {A = ℕ} 0xef 0xfa = cc in
    absurd (omega arith)
token_prefix_free place (TelnetToken (Subnegotiate s))
    (TelnetToken (Command code)) rest hu hv e = let f : command_byte code ≡ 0xfa = cc in
    absurd (omega (arith, command_high code))
token_prefix_free place (TelnetToken (Subnegotiate s))
    (TelnetToken (Negotiate verb o)) rest hu hv e = let f : verb_byte verb ≡ 0xfa = cc in
    absurd (omega (arith, verb_low verb))
token_prefix_free place (TelnetToken (Subnegotiate s))
    (TelnetToken (Subnegotiate t)) rest hu hv e = ap (λ x. TelnetToken (Subnegotiate x)) (same_sub s t rest e)

-- after any tokens a next one can come
pub token_begins : (place : Unit {0}) → IsUnfinished token_rules place []
token_begins place = record {
  unit = Eor;
  next = 0xff;
  rest = 0xef
      ∷ [];
  stands = record { is_unit = tt; may_follow = refl };
  spelled = refl;
}
