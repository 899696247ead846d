-- The elements of a body as C gives them: the number of a kind, and operands (SC30-3533, commands and orders)

use Rattle.std.specs.Prelude.{◌≡◌, ℕ, true, List, [], Option, Some, None, IfSome, IfNone, SomeIff}
use Rattle.ws_code.specs.Address.{IsRowAndColumn, place_of}
use Rattle.ws_code.specs.DataByte.{IsData}
use Rattle.ws_stream.specs.Elements.{spelling}
use Rattle.ws_stream.specs.FieldOrder.{FieldOrder, IsFieldOrder, is_attribute}
use Rattle.ws_stream.specs.Parts.{IsEraseList, IsSoh}
use Rattle.ws_stream.specs.declared.element.Element.{Element}
use Rattle.ws_stream.specs.declared.element.Element.TheVariants as an
use Rattle.ws_c.specs.declared.spelling.ElementKind.{ElementKind}
use Rattle.ws_c.specs.declared.spelling.ElementKind.TheVariants.{ClearUnit, ClearFormat, Write, ReadInput, ReadMdt}
use Rattle.ws_c.specs.declared.spelling.ElementKind.TheVariants.{ReadMdtAlternate, Header, Repeat, Erase, SetAddress}
use Rattle.ws_c.specs.declared.spelling.ElementKind.TheVariants.{InsertCursor, MoveCursor, Field, OutputField}
use Rattle.ws_c.specs.declared.spelling.ElementKind.TheVariants.{Attribute}
use Rattle.ws_c.specs.declared.spelling.GivenElement.{GivenElement}
use Rattle.ws_c.specs.declared.status.Status.TheVariants.{BadArgument}
use Rattle.ws_c.specs.declared.told.Told.{Told}
use Rattle.ws_c.specs.Calls.{Crossed, GivesBytes, TellsOnly, told_length}

-- the number of a kind
abbrev pub element_number : ElementKind → ℕ
element_number ClearUnit = 1
element_number ClearFormat = 2
element_number Write = 3
element_number ReadInput = 4
element_number ReadMdt = 5
element_number ReadMdtAlternate = 6
element_number Header = 7
element_number Repeat = 8
element_number Erase = 9
element_number SetAddress = 10
element_number InsertCursor = 11
element_number MoveCursor = 12
element_number Field = 13
element_number OutputField = 14
element_number Attribute = 15

-- a start of field as it is given, with this format word, if one
abbrev pub order_given : Option ℕ → GivenElement → FieldOrder
order_given format g = record { format = format; controls = []; attribute = g.byte; length = g.length }

-- the element of a kind and its operands, where there is one
abbrev pub IsElementOf : ElementKind → GivenElement → List ℕ → Option Element → Type 0
IsElementOf ClearUnit g bytes e = e ≡ Some an.ClearUnit
IsElementOf ClearFormat g bytes e = e ≡ Some an.ClearFormat
IsElementOf Write g bytes e = e ≡ Some (an.Write g.cc1 g.cc2)
IsElementOf ReadInput g bytes e = e ≡ Some (an.ReadInput g.cc1 g.cc2)
IsElementOf ReadMdt g bytes e = e ≡ Some (an.ReadMdt g.cc1 g.cc2)
IsElementOf ReadMdtAlternate g bytes e = e ≡ Some (an.ReadMdtAlternate g.cc1 g.cc2)
IsElementOf Header g bytes e = SomeIff e (IsSoh bytes) (an.Soh bytes)
IsElementOf Repeat g bytes e = SomeIff e (IsRowAndColumn g.row g.column × IsData g.byte)
    (an.Ra (place_of g.row g.column) g.byte)
IsElementOf Erase g bytes e = SomeIff e (IsRowAndColumn g.row g.column × IsEraseList bytes)
    (an.Ea (place_of g.row g.column) bytes)
IsElementOf SetAddress g bytes e = SomeIff e (IsRowAndColumn g.row g.column) (an.Sba (place_of g.row g.column))
IsElementOf InsertCursor g bytes e = SomeIff e (IsRowAndColumn g.row g.column) (an.Ic (place_of g.row g.column))
IsElementOf MoveCursor g bytes e = SomeIff e (IsRowAndColumn g.row g.column) (an.Mc (place_of g.row g.column))
IsElementOf Field g bytes e = SomeIff e (IsFieldOrder (order_given (Some g.format) g))
    (an.Sf (order_given (Some g.format) g))
IsElementOf OutputField g bytes e = SomeIff e (IsFieldOrder (order_given None g)) (an.Sf (order_given None g))
IsElementOf Attribute g bytes e = SomeIff e (is_attribute g.byte ≡ true) (an.Put g.byte)

-- the element of a kind, where there is one
abbrev pub IsElementOfKind : Option ElementKind → GivenElement → List ℕ → Option Element → Type 0
IsElementOfKind None g bytes e = e ≡ None
IsElementOfKind (Some kind) g bytes e = IsElementOf kind g bytes e

-- the element that is given, where there is one
pub record IsElementFrom (g : GivenElement) (bytes : List ℕ) (e : Option Element) : Type 0 where
  pub named : Option ElementKind
  pub some : IfSome named (λ kind. element_number kind ≡ g.kind)
  pub none : IfNone named ((kind : ElementKind) → element_number kind ≡ g.kind → ⊥)
  pub is_of : IsElementOfKind named g bytes e

-- what an element's spelling crosses as, where there is one
abbrev pub IsSpellingGiven : Option Element → Crossed Told → Type 0
IsSpellingGiven None call = TellsOnly call BadArgument (told_length 0)
IsSpellingGiven (Some element) call = GivesBytes call (spelling element)
