-- The lines of a script for a host, of any kind, that work on the connection itself.

use Rattle.std.specs.Prelude.{◌≡◌, ℕ, List, [], ◌∷◌, ◌++◌, ◌⊎◌, codes}
use Rattle.ws_telnet.specs.Token.{telnet_spelling}
use Rattle.ws_telnet.specs.declared.token.Telnet.{Telnet}
use Rattle.ws_record.specs.declared.record.Item.{Item}
use Rattle.ws_record.specs.declared.record.Item.TheVariants.{Telnet as TelnetItem}
use Rattle.ws_stream.specs.declared.element.Element.{Element}
use Rattle.ws_stream.specs.Elements.{element_rules}
use Rattle.ws_text.specs.ElementWords.{element_wording}
use Rattle.ws_text.specs.Items.{AreItems}
use Rattle.ws_text.specs.Words.{IsHex}
use Rattle.ws_script.specs.lines.ConnectLines.{IsMilliseconds}
use Rattle.ws_script.specs.declared.lines.wire_line.WireLine.{WireLine}
use Rattle.ws_script.specs.declared.lines.wire_line.WireLine.TheVariants.{Raw, Pause, Close}

-- a line that is a text of these items, as `make` reads it
abbrev pub AreSaid : List ℕ → List (Item Element) → Type 0
AreSaid line items = AreItems element_rules element_wording line items

-- the line has words of a Telnet command
abbrev pub IsTelnetLine : List ℕ → Type 0
IsTelnetLine line = (words : List ℕ) × (line ≡ codes "telnet " ++ words)

-- the bytes of the Telnet command that a line says
abbrev pub IsCommandSaid : List ℕ → List ℕ → Type 0
IsCommandSaid line bytes = (telnet : Telnet) × AreSaid line (TelnetItem telnet ∷ [])
    × (bytes ≡ telnet_spelling telnet)

-- bytes that are written as they are: in hex, or those of a Telnet command
abbrev pub IsRaw : List ℕ → List ℕ → Type 0
IsRaw line bytes = ((hex : List ℕ) × (line ≡ codes "raw " ++ hex) × IsHex hex bytes)
    ⊎ (IsTelnetLine line × IsCommandSaid line bytes)

-- what such a line means
abbrev pub MeansWire : List ℕ → WireLine → Type 0
MeansWire line (Raw bytes) = IsRaw line bytes
MeansWire line (Pause time) = (word : List ℕ) × (line ≡ codes "pause " ++ word) × IsMilliseconds word time
MeansWire line Close = line ≡ codes "close"

-- the line says items
abbrev pub SaysItems : List ℕ → Type 0
SaysItems line = (items : List (Item Element)) × AreSaid line items

-- the lines that take memory: bytes up to their hex, or the words of items
abbrev pub IsWireBegun : List ℕ → Type 0
IsWireBegun line = ((hex : List ℕ) × (line ≡ codes "raw " ++ hex)) ⊎ (IsTelnetLine line × SaysItems line)
