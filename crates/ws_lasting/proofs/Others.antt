use Rattle.ws_lasting.proofs.Common as C
use C.{◌≡◌, refl, Option, Some, None, false, More, Whole, Bad, Telnet, Command, Negotiate, Subnegotiate, Data, Eor}
use C.{TelnetToken, EnvironState, environ_answer, is_of_environ, OnDisplay, identity_told, OthersAsBefore}

-- At all but a token of NEW-ENVIRON a station with an identity does as one without.

none_told : (environ : EnvironState) (token : Telnet) → is_of_environ token ≡ false
    → environ_answer environ token ≡ None
none_told environ (Command code) other = refl
none_told environ (Negotiate verb option) other = rw other refl
none_told environ (Subnegotiate sub) other = rw other refl

untold : (environ : Option EnvironState) (token : Telnet) → is_of_environ token ≡ false
    → identity_told environ token ≡ None
untold None token other = refl
untold (Some environ) token other = none_told environ token other

pub others_as_before : (on : OnDisplay) → OthersAsBefore on
others_as_before on at next More written told other =
    (λ a. (a.1, (a.0, refl, a.2, a.3, a.4)), λ a. (a.1.0, a.0, a.1.2, a.1.3, a.1.4))
others_as_before on at next (Whole (Data b)) written told other =
    (λ a. (a.1, (a.0, refl, a.2, a.3, a.4)), λ a. (a.1.0, a.0, a.1.2, a.1.3, a.1.4))
others_as_before on at next (Whole Eor) written told other =
    (λ a. (a.0, (refl, a.1, a.2)), λ a. (a.0, a.1.1, a.1.2))
others_as_before on at next (Whole (TelnetToken token)) written told other =
    let none = untold at.environ token other in
    rw none (λ a. (a.1, (a.0, refl, a.2, a.3, a.4)), λ a. (a.1.0, a.0, a.1.2, a.1.3, a.1.4))
others_as_before on at next (Bad reason) written told other = (λ a. absurd a, λ a. absurd a.1)
