-- What a line of a script does at a host that takes any record, and what it prints.

use Rattle.std.specs.Prelude.{◌≡◌, ℕ, List, [], ◌∷◌, ◌++◌, Bool, false, not, ◌&&◌, ◌==◌, nat_lt}
use Rattle.std.specs.Prelude.{codes, Option, None, Some, Result, Ok, if◌then◌else◌, string_bytes}
use Rattle.std.specs.List.{flat_map}
use Rattle.std.specs.Fmt.{decimal}
use Rattle.hex.specs.Hex.{encode_upper}
use Rattle.ws_code.specs.declared.fault.Fault.{Fault}
use Rattle.ws_record.specs.Grammar.{two_bytes, opcode_byte}
use Rattle.ws_end.specs.attached.Attachments.{AttachedParts}
use Rattle.ws_end.specs.attached.Requests.{HasActed}
use Rattle.ws_end.specs.declared.attached.acted.Acted.{Acted}
use Rattle.ws_end.specs.declared.host_end.send_fault.SendFault.{SendFault}
use Rattle.ws_text.specs.ItemLines.{hex_behind_blank}
use Rattle.ws_live.specs.live.Hearing.{HearsOne, HearsUntil}
use Rattle.ws_live.specs.live.LiveText.{LinesDo, bad_outcome, bad_text}
use Rattle.ws_live.specs.live.ServeText.{given_outcome, given_text}
use Rattle.ws_live.specs.live.Watches.{InTime, WatchTimes, WatchedDevices}
use Rattle.ws_live.specs.live.WireRuns.{WireRuns}
use Rattle.ws_live.specs.declared.live.Closing.TheVariants.{Nothing}
use Rattle.ws_live.specs.declared.live.LiveSession.{LiveSession}
use Rattle.ws_live.specs.declared.live.Telling.{Telling}
use Rattle.ws_live.specs.declared.live.watch.WaitSpan.{WaitSpan}
use Rattle.ws_live.specs.declared.live.watch.WaitSpan.TheVariants.{Whole}
use Rattle.ws_any_host.specs.AnyReached.{AnyParts, any_behaviour, any_judged}
use Rattle.ws_any_host.specs.declared.any_event.AnyEvent.{AnyEvent}
use Rattle.ws_any_host.specs.declared.any_event.AnyEvent.TheVariants.{Ready, Record as Came}
use Rattle.ws_any_host.specs.declared.any_line.AnyLine.{AnyLine}
use Rattle.ws_any_host.specs.declared.any_line.AnyLine.TheVariants.{Nothing as NoLine, Send, Await, AwaitKey, Wire, Bad}

-- a byte of a name that stands for itself: it prints (ASCII), and is neither a blank nor `\`
abbrev pub is_plain : ℕ → Bool
is_plain byte = nat_lt 32 byte && nat_lt byte 127 && not (byte == 92)

-- a byte of a name; own choice: any other is `\` and two hex digits, so that a name stays within its line
abbrev pub name_byte : ℕ → List ℕ
name_byte byte = if is_plain byte then byte ∷ [] else codes "\\" ++ encode_upper (byte ∷ [])

-- a terminal's name as it came
abbrev pub terminal_name_text : List ℕ → List ℕ
terminal_name_text name = flat_map name_byte name

-- what the host tells: the terminal's name; and a record by its flags in hex, its opcode in decimal, and its body in
-- hex where it has one
abbrev pub any_event_text : AnyEvent → List ℕ
any_event_text (Ready name) = codes "terminal " ++ terminal_name_text name ++ codes "\n"
any_event_text (Came r) = codes "record flags " ++ encode_upper (two_bytes r.flags) ++ codes " opcode "
    ++ decimal (opcode_byte r.opcode) ++ hex_behind_blank r.body ++ codes "\n"

-- a body begins as an answer by this key: after a cursor's row and column (SC30-3533, responses to read commands)
abbrev pub is_answer_by : ℕ → List ℕ → Bool
is_answer_by aid (row ∷ column ∷ third ∷ rest) = third == aid
is_answer_by aid short = false

-- what the host tells is a record by this key: an answer's opcode, and a body that begins as one
abbrev pub is_by : ℕ → AnyEvent → Bool
is_by aid (Ready name) = false
is_by aid (Came r) = (opcode_byte r.opcode == 3) && is_answer_by aid r.body

-- how long a line waits, if it does
abbrev pub any_waits : AnyLine → Option WaitSpan
any_waits Await = Some Whole
any_waits (AwaitKey aid) = Some Whole
any_waits line = None

-- What lines do, at a watch that tells of a source whether the read that failed was late.
module _ {S K : Type 0} (on : WatchedDevices S K) where
  -- what a line of this number comes to at such a host
  abbrev pub AnyDoes : Option ℕ → LinesDo AnyLine (AttachedParts AnyParts S K)
  AnyDoes number NoLine from came to = (to ≡ from) × (came.outcome ≡ Ok Nothing) × (came.text ≡ [])
  AnyDoes number (Send r) from came to = (given : Result (Acted SendFault) Fault) × (from.broken ≡ false)
      × HasActed on.devices (any_judged r) from to given
      × (came.outcome ≡ given_outcome given) × (came.text ≡ given_text number given)
  AnyDoes number Await from came to =
      (told : Option AnyEvent) × HearsOne any_behaviour any_event_text on from told came to
  AnyDoes number (AwaitKey aid) from came to =
      HearsUntil any_behaviour any_event_text on (is_by aid) from came to
  AnyDoes number (Wire line) from came to = WireRuns on.devices.writer line from came.outcome to × (came.text ≡ [])
  AnyDoes number (Bad cause) from came to = (to ≡ from) × (came.outcome ≡ bad_outcome)
      × (came.text ≡ bad_text (string_bytes cause))

  -- what a line comes to at it, where so many records are ahead, which none of its lines takes
  abbrev pub AnyRuns : Telling → LinesDo AnyLine (AttachedParts AnyParts S K × ℕ)
  AnyRuns telling line from came to = AnyDoes telling.line line from.0 came to.0 × (to.1 ≡ from.1)

  -- what lines do at such a host, at a watch that keeps its waits so
  abbrev pub AnyRunsInTime : {W : Type 0} → WatchTimes W S → Telling → LinesDo AnyLine (LiveSession AnyParts S K W)
  AnyRunsInTime times telling = InTime (AnyRuns telling) any_waits times
