-- What an attribute looks like, as C sees it (SC30-3533, screen attributes; IBM 3179-2, colour attributes)

use Rattle.std.specs.Prelude.{ℕ, Bool, false, true, if◌then◌else◌}
use Rattle.ws_screen.specs.Attributes.{has_separators, is_blinking, is_hidden, is_intense, is_reversed, is_underscored}
use Rattle.ws_screen.specs.Colors.{style_of}
use Rattle.ws_screen.specs.declared.style.Color.{Color}
use Rattle.ws_screen.specs.declared.style.Color.TheVariants.{Green, White, Red, Turquoise, Yellow, Pink, Blue}
use Rattle.ws_c.specs.declared.attribute_look.LookTold.{LookTold}

-- the number of a colour; 0 stands for none
abbrev pub color_number : Color → ℕ
color_number Green = 1
color_number White = 2
color_number Red = 3
color_number Turquoise = 4
color_number Yellow = 5
color_number Pink = 6
color_number Blue = 7

-- what is told of a look where there is none
abbrev pub no_look : LookTold
no_look = record {
  color = 0;
  is_hidden = false;
  is_reversed = false;
  is_intense = false;
  is_underscored = false;
  is_blinking = false;
  has_separators = false;
}

-- what an attribute looks like on a colour display: its style, and whether it hides; nothing is intense there
abbrev pub color_look : ℕ → LookTold
color_look a = record {
  color = color_number (style_of a).color;
  is_hidden = is_hidden a;
  is_reversed = (style_of a).is_reversed;
  is_intense = false;
  is_underscored = (style_of a).is_underscored;
  is_blinking = (style_of a).is_blinking;
  has_separators = (style_of a).has_separators;
}

-- what an attribute looks like on a monochrome display, which has no colour: its bits, but where it hides nothing else
abbrev pub monochrome_look : ℕ → LookTold
monochrome_look a =
    if is_hidden a then record no_look { is_hidden = true }
    else record {
      color = 0;
      is_hidden = false;
      is_reversed = is_reversed a;
      is_intense = is_intense a;
      is_underscored = is_underscored a;
      is_blinking = is_blinking a;
      has_separators = has_separators a;
    }

-- what an attribute looks like, on a display that is or isn't in colour
abbrev pub look_told : Bool → ℕ → LookTold
look_told is_color a = if is_color then color_look a else monochrome_look a
