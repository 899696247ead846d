use Rattle.std.specs.List.{AllByRecursion}
use Rattle.std.specs.Str.{bytes_eq}
use Rattle.std.proofs.Common.{◌≡◌, ℕ, List, [], ◌∷◌, Bool, true, false, Option, Some, None, refl, ap, sym, ◌∙◌, subst}
use Rattle.std.proofs.Common.{codes, if◌then◌else◌}
use Rattle.std.proofs.lemmas.Slice.Eq.{bytes_eq-Decides}
use Rattle.ws_extended.specs.CommandNames.{command_name, command_names, look_up_command}
use Rattle.ws_extended.specs.declared.ask.Ask.TheVariants.{Query, SaveScreen, ReadScreen, ReadImmediate}
use Rattle.ws_extended.specs.declared.ask.Ask.TheVariants.{ReadImmediateAlternate}
use Rattle.ws_extended.specs.declared.extended_element.ExtendedElement.{ExtendedElement}
use Rattle.ws_extended.specs.declared.extended_element.ExtendedElement.TheVariants.{Profile, Text, RestoreScreen}
use Rattle.ws_extended.specs.declared.extended_element.ExtendedElement.TheVariants.{Roll, WriteError, Asks}
use Rattle.ws_extended.proofs.command_names.names_are_read.Goals as goal

-- the entry of a name
found : (e : ExtendedElement) (known name : List ℕ) → look_up_command known command_names ≡ Some e → Some known ≡ Some name
    → look_up_command name command_names ≡ Some e
found e known name h same = subst (λ (o : Option (List ℕ)). look_up_command (text o) command_names ≡ Some e) same h
  where
    text : Option (List ℕ) → List ℕ
    text None = []
    text (Some n) = n

read : (e : ExtendedElement) (name : List ℕ) → command_name e ≡ Some name → look_up_command name command_names ≡ Some e
read (Profile e) name h = absurd (cc)
read (Text e) name h = absurd (cc)
read RestoreScreen name h = found RestoreScreen (codes "RESTORE-SCREEN") name refl h
read (Roll r) name h = absurd (cc)
read WriteError name h = found WriteError (codes "WRITE-ERROR") name refl h
read (Asks Query) name h = found (Asks Query) (codes "QUERY") name refl h
read (Asks SaveScreen) name h = found (Asks SaveScreen) (codes "SAVE-SCREEN") name refl h
read (Asks ReadScreen) name h = found (Asks ReadScreen) (codes "READ-SCREEN") name refl h
read (Asks ReadImmediate) name h = found (Asks ReadImmediate) (codes "READ-IMMEDIATE") name refl h
read (Asks ReadImmediateAlternate) name h =
    found (Asks ReadImmediateAlternate) (codes "READ-IMMEDIATE-ALTERNATE") name refl h

-- each entry has its element's name
only_in : (table : List (List ℕ × ExtendedElement)) (e : ExtendedElement) (name : List ℕ)
    → AllByRecursion (λ (entry : List ℕ × ExtendedElement). command_name entry.1 ≡ Some entry.0) table
    → look_up_command name table ≡ Some e → command_name e ≡ Some name
only_in [] e name all h = absurd (cc)
only_in ((known, f) ∷ rest) e name all h = go (bytes_eq name known) refl (only_in rest e name all.1) h
  where
    go : (t : Bool) → bytes_eq name known ≡ t → (look_up_command name rest ≡ Some e → command_name e ≡ Some name)
        → (if t then Some f else look_up_command name rest) ≡ Some e → command_name e ≡ Some name
    go true is later h =
        let same : f ≡ e = cc in
        ap command_name (sym same) ∙ all.0 ∙ ap (λ (n : List ℕ). Some n) (sym ((bytes_eq-Decides name known).0 is))
    go false is later h = later h

pub returns-clause-read : goal.returns-clause-read
returns-clause-read c = read

pub returns-clause-only : goal.returns-clause-only
returns-clause-only c = λ e name h.
    only_in command_names e name (refl, (refl, (refl, (refl, (refl, (refl, (refl, tt))))))) h
