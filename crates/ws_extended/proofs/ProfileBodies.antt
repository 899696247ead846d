-- Bodies of the profile among those of live hosts.
use Rattle.std.proofs.Common.{◌≡◌, ℕ, List, [], ◌∷◌, ◌++◌, refl, ap, map}
use Rattle.ws_code.specs.Code.{IsChain, IsWhole, spelling_of}
use Rattle.ws_stream.specs.Elements.{element_rules, spelling}
use Rattle.ws_stream.specs.declared.element.Element.{Element}
use Rattle.ws_stream.specs.declared.place.Place.{Place}
use Rattle.ws_extended.specs.ExtendedElements.{extended_rules}
use Rattle.ws_extended.specs.declared.extended_element.ExtendedElement.TheVariants.{Profile}
use Rattle.ws_extended.specs.declared.extended_place.ExtendedPlace.TheVariants.{InProfile}

chain : (place : Place) (es : List Element) → IsChain element_rules place es
    → IsChain extended_rules (InProfile place) (map Profile es)
chain place [] c = tt
chain place (e ∷ es) c =
    (record { is_unit = c.0.is_unit; may_follow = c.0.may_follow }, chain (element_rules.after e) es c.1)

pub profile_body : (es : List Element) → IsWhole element_rules es → IsWhole extended_rules (map Profile es)
profile_body es whole = record { chain = chain element_rules.first es whole.chain; ends = refl }

chain_back : (place : Place) (es : List Element) → IsChain extended_rules (InProfile place) (map Profile es)
    → IsChain element_rules place es
chain_back place [] c = tt
chain_back place (e ∷ es) c =
    (record { is_unit = c.0.is_unit; may_follow = c.0.may_follow }, chain_back (element_rules.after e) es c.1)

pub body_of_profile : (es : List Element) → IsWhole extended_rules (map Profile es) → IsWhole element_rules es
body_of_profile es whole = record { chain = chain_back element_rules.first es whole.chain; ends = refl }

pub profile_spelled : (es : List Element) → spelling_of extended_rules (map Profile es) ≡ spelling_of element_rules es
profile_spelled [] = refl
profile_spelled (e ∷ es) = ap (λ (l : List ℕ). spelling e ++ l) (profile_spelled es)
