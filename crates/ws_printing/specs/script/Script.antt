-- Scripts: which moves each line gives, and a whole text.

use Rattle.std.specs.Prelude.{◌≡◌, ◌≢◌, ℕ, ◌+◌, ◌-◌, ◌^◌, ◌⊎◌, List, [], ◌∷◌, ◌++◌, map, length, codes, Bool, true}
use Rattle.std.specs.Prelude.{false, if◌then◌else◌, Some, Ok}
use Rattle.std.specs.Str.{IsUtf8, all_scalars, encode_utf8_all}
use Rattle.std.specs.Str.Lines.{lines}
use Rattle.hex.specs.Hex.{decode_of}
use Rattle.ws_record.specs.declared.opcode.Opcode.{Opcode}
use Rattle.ws_record.specs.declared.opcode.Opcode.TheVariants.{CancelInvite}
use Rattle.ws_record.specs.Body.{IsBody}
use Rattle.ws_record.specs.Grammar.{opcode_byte}
use Rattle.ws_stream.specs.declared.element.Element.{Element}
use Rattle.ws_stream.specs.Elements.{element_rules}
use Rattle.ws_keys.specs.declared.key.Key.{Key}
use Rattle.ws_keys.specs.declared.key.Key.TheVariants.{Char, Insert}
use Rattle.ws_session.specs.declared.world.Move.{Move}
use Rattle.ws_session.specs.declared.world.Move.TheVariants.{Send, Cancel, ToStation, ToHost, Key as Press}
use Rattle.ws_text.specs.Words.{IsNumber}
use Rattle.ws_printing.specs.script.KeyNames.{key_named}

-- the greatest count of bytes: all that are in flight
abbrev pub all_bytes : ℕ
all_bytes = 2 ^ 64 - 1

-- how many bytes arrive: a number, or `all`
abbrev pub IsCount : List ℕ → ℕ → Type 0
IsCount word n = IsNumber word n ⊎ ((word ≡ codes "all") × (n ≡ all_bytes))

-- a body in hex
abbrev pub IsBodyText : List ℕ → List Element → Type 0
IsBodyText hex body = (bytes : List ℕ) × (decode_of hex ≡ Ok bytes) × IsBody element_rules bytes body

-- an opcode in decimal, other than that of Cancel Invite
abbrev pub IsSendOpcode : List ℕ → Opcode → Type 0
IsSendOpcode number opcode = IsNumber number (opcode_byte opcode) × (opcode ≢ CancelInvite)

-- a record to be sent: its opcode, and its body after a blank where it has one
pub record IsRecordText (words : List ℕ) (opcode : Opcode) (body : List Element) : Type 0 where
  pub number : List ℕ
  pub sent : IsSendOpcode number opcode
  pub rest : ((words ≡ number) × (body ≡ []))
      ⊎ ((hex : List ℕ) × (words ≡ number ++ codes " " ++ hex) × (hex ≢ []) × IsBodyText hex body)

-- a line that is one move
abbrev pub IsMove : List ℕ → Move → Type 0
IsMove line (Send opcode body) = (words : List ℕ) × (line ≡ codes "send " ++ words) × IsRecordText words opcode body
IsMove line Cancel = line ≡ codes "cancel"
IsMove line (ToStation n) = (word : List ℕ) × (line ≡ codes "down " ++ word) × IsCount word n
IsMove line (ToHost n) = (word : List ℕ) × (line ≡ codes "up " ++ word) × IsCount word n
IsMove line (Press key) = (name : List ℕ) × (line ≡ codes "key " ++ name) × (key_named name ≡ Some key)

-- all that is in flight arrives, four times to and fro
abbrev pub to_and_fro : List Move
to_and_fro = ToStation all_bytes ∷ ToHost all_bytes ∷ []

-- to and fro four times, which is enough for both ends to be ready
abbrev pub settling : List Move
settling = to_and_fro ++ to_and_fro ++ to_and_fro ++ to_and_fro

-- the key of a character
abbrev pub typed_key : Bool → ℕ → Key
typed_key inserts character = if inserts then Insert character else Char character

-- a key for each character of a text in UTF-8
pub record AreTypedMoves (inserts : Bool) (text : List ℕ) (moves : List Move) : Type 0 where
  pub characters : List ℕ
  pub are : all_scalars characters ≡ true
  pub spelled : encode_utf8_all characters ≡ text
  pub typed : moves ≡ map (λ c. Press (typed_key inserts c)) characters

-- the forms of a line, and the moves that each gives
pub data MeansMoves (line : List ℕ) (moves : List Move) : Type 0 where
  empty : line ≡ [] → moves ≡ [] → MeansMoves line moves
  comment : (text : List ℕ) → line ≡ codes "#" ++ text → moves ≡ [] → MeansMoves line moves
  one : (step : Move) → IsMove line step → moves ≡ step ∷ [] → MeansMoves line moves
  settle : line ≡ codes "settle" → moves ≡ settling → MeansMoves line moves
  typed : (text : List ℕ) → line ≡ codes "type " ++ text → AreTypedMoves false text moves → MeansMoves line moves
  inserted : (text : List ℕ) → line ≡ codes "insert " ++ text → AreTypedMoves true text moves → MeansMoves line moves

-- a line of a script, which is UTF-8, and its moves
abbrev pub IsScriptLine : List ℕ → List Move → Type 0
IsScriptLine line moves = IsUtf8 line × MeansMoves line moves

-- lines and their moves, in order
abbrev pub AreLines : List (List ℕ) → List Move → Type 0
AreLines [] moves = moves ≡ []
AreLines (line ∷ more) moves = (first : List Move) × (rest : List Move) × IsScriptLine line first × AreLines more rest
    × (moves ≡ first ++ rest)

-- a script and its moves; its lines are those of a text, each ended by LF, of which the last may lack it, without a CR
-- before the LF
abbrev pub IsScript : List ℕ → List Move → Type 0
IsScript text moves = AreLines (lines text) moves

-- the first bad line of a script, counted from 1
pub record IsFirstBad (text : List ℕ) (number : ℕ) : Type 0 where
  pub before : List (List ℕ)
  pub line : List ℕ
  pub after : List (List ℕ)
  pub split : lines text ≡ before ++ line ∷ after
  pub moves : List Move
  pub good : AreLines before moves
  pub bad : (other : List Move) → IsScriptLine line other → ⊥
  pub counted : number ≡ length before + 1
