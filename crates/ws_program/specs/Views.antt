-- How the items of a host and those of a station are shown, and those of a live host.

use Rattle.std.specs.Prelude.{◌≡◌, ℕ, List, [], ◌∷◌, Option, None}
use Rattle.ws_code.specs.declared.reason.Reason.{Reason}
use Rattle.ws_record.specs.declared.record.Item.{Item}
use Rattle.ws_record.specs.declared.record.Item.TheVariants.{Record as RecordItem, Telnet as TelnetItem}
use Rattle.ws_stream.specs.declared.element.Element.{Element}
use Rattle.ws_stream.specs.declared.answer_part.AnswerPart.{AnswerPart}
use Rattle.ws_screen.specs.Bodies.{body_fault}
use Rattle.ws_screen.specs.Events.{History}
use Rattle.ws_screen.specs.Given.{Gives}
use Rattle.ws_screen.specs.ScreenParts.{ScreenParts}
use Rattle.ws_end.specs.station.StationEndState.{after_record}
use Rattle.ws_extended.specs.declared.extended_answer_part.ExtendedAnswerPart.{ExtendedAnswerPart}
use Rattle.ws_text.specs.AnswerLines.{answer_text}
use Rattle.ws_text.specs.ExtendedAnswerLines.{told_item_text}
use Rattle.ws_text.specs.ItemLines.{item_text}
use Rattle.ws_printing.specs.ScreenLines.{IsScreenText, on_037, IsDisplayText}
use Rattle.ws_printing.specs.declared.look.Look.{Look}
use Rattle.ws_printing.specs.declared.paint.Paint.TheVariants.{Plain}
use Rattle.ws_program.specs.StreamText.{View}
use Rattle.ws_extended.specs.ExtendedStates.{ExtendedState}
use Rattle.ws_extended.specs.ExtendedViews.{ExtendedParts, Shows}
use Rattle.ws_extended.specs.declared.extended_element.ExtendedElement.{ExtendedElement}
use Rattle.ws_extended_station.specs.ExtendedDisplays.{standing_row}
use Rattle.ws_text.specs.ExtendedLines.{extended_item_text}
use Rattle.ws_printing.specs.ErrorRow.{error_line}
pub use Rattle.ws_trace.specs.BothEnds.{new_state, state_after_item, extended_item_fault}

-- the events so far, and those of an item: a record is applied as a station does, a Telnet command has no effect
abbrev pub after_item : History → Item Element → History
after_item h (RecordItem r) = after_record h r
after_item h (TelnetItem telnet) = h

-- why the screen refuses an item, if it does
abbrev pub item_fault : History → Item Element → Option Reason
item_fault h (RecordItem r) = body_fault h r.body
item_fault h (TelnetItem telnet) = None

-- the events so far, and those of the items
abbrev pub after_items : History → List (Item Element) → History
after_items h [] = h
after_items h (x ∷ xs) = after_items (after_item h x) xs

-- a screen that the items give, where no write is open
abbrev pub MakesScreen : List (Item Element) → ScreenParts → Type 0
MakesScreen items screen = Gives (after_items [] items) screen × (screen.writing ≡ None)

-- what stands after the items of a host: the screen that they give
abbrev pub IsScreenEnd : Look → List (Item Element) → List ℕ → Type 0
IsScreenEnd look items text = (s : ScreenParts) × Gives (after_items [] items) s × IsScreenText look s text

-- how a host's items are shown, and the screen after them in a paint and on a page
abbrev pub painted_host_view : Look → View Element
painted_host_view look = record {
  lines = item_text;
  fault = λ before item. item_fault (after_items [] before) item;
  Ends = IsScreenEnd look;
}

-- how a host's items are shown, and the screen after them in plain text on page 037
abbrev pub host_view : View Element
host_view = painted_host_view (on_037 Plain)

-- the display after the items
abbrev pub state_after_items : ExtendedState → List (Item ExtendedElement) → ExtendedState
state_after_items state [] = state
state_after_items state (x ∷ xs) = state_after_items (state_after_item state x) xs

-- a display that the items give, where no write is open
abbrev pub MakesDisplay : List (Item ExtendedElement) → ExtendedParts → Type 0
MakesDisplay items display = Shows (state_after_items new_state items) display × (display.screen.writing ≡ None)

-- what stands after the items: the screen of the display that they give, and the row on which an error stands
abbrev pub IsExtendedEnd : Look → List (Item ExtendedElement) → List ℕ → Type 0
IsExtendedEnd look items text = (d : ExtendedParts) × Shows (state_after_items new_state items) d
    × IsDisplayText look d.screen (error_line (standing_row d)) text

-- how a live host's items are shown, and after them the display's screen in a paint and on a page, and the row of an
-- error
abbrev pub extended_view : Look → View ExtendedElement
extended_view look = record {
  lines = extended_item_text;
  fault = λ before item. extended_item_fault (state_after_items new_state before) item;
  Ends = IsExtendedEnd look;
}

-- nothing stands after a station's answers
abbrev pub IsNoEnd : {U : Type 0} → List (Item U) → List ℕ → Type 0
IsNoEnd items text = text ≡ []

-- how a station's answers are shown; nothing stands after them
abbrev pub answer_view : View AnswerPart
answer_view = record { lines = answer_text; fault = λ _ _. None; Ends = IsNoEnd }

-- how what a live host's station sends is shown; nothing stands after it
abbrev pub told_view : View ExtendedAnswerPart
told_view = record { lines = told_item_text; fault = λ _ _. None; Ends = IsNoEnd }

-- a way to show items, with what stands after them in a paint and on a page
abbrev pub in_look : {U : Type 0} → View U → (Look → List (Item U) → List ℕ → Type 0) → Look → View U
in_look view Ends look = record { lines = view.lines; fault = view.fault; Ends = Ends look }
