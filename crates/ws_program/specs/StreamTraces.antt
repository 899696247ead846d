-- Two streams, a file for each: their pieces, the dialogue that is printed of these in a form, and the faults.

use Rattle.std.specs.Prelude.{◌≡◌, ℕ, List, [], ◌∷◌, ◌++◌, Bool, true, false, Option, None, Some, Ok, Err, ◌⊎◌}
use Rattle.std.specs.Borrow.{Bor}
use Rattle.ws_printing.specs.Printouts.{Printout}
use Rattle.ws_script.specs.declared.asked.fault.RunFault.{RunFault}
use Rattle.ws_script.specs.declared.asked.fault.RunFault.TheVariants.{Write}
use Rattle.ws_script.specs.declared.asked.fault.ToldFault.TheVariants.{Run}
use Rattle.ws_trace.specs.declared.piece.Piece.{Piece}
use Rattle.ws_trace.specs.declared.piece.TracedEnd.{TracedEnd}
use Rattle.ws_trace.specs.declared.piece.TracedEnd.TheVariants.{Host, Station}
use Rattle.ws_program.specs.Actions.{IsCarriedOut}
use Rattle.ws_program.specs.FileChecks.{IsUnfound}
use Rattle.ws_program.specs.FileFaults.{IsOfFile}
use Rattle.ws_program.specs.StreamBytes.{AreBytesOf}
use Rattle.ws_program.specs.Streams.{at_output}
use Rattle.ws_program.specs.Traced.{dialogue_action}
use Rattle.ws_program.specs.declared.command_fault.CommandFault.{CommandFault}
use Rattle.ws_program.specs.declared.command_fault.CommandFault.TheVariants.{Told, Unwritten}
use Rattle.ws_program.specs.declared.stream_trace.StreamTrace.{StreamTrace}
use Rattle.ws_program.specs.declared.words.command_line.StreamForm.{StreamForm}
use Rattle.ws_program.specs.declared.words.command_line.StreamForm.TheVariants.{Hex, Raw}

-- what the files have: the bytes themselves, or hex text
abbrev pub form_of : Bool → StreamForm
form_of true = Raw
form_of false = Hex

module _ (raw : Bool) where
  -- a piece that an end sent at time 0: the bytes that were read of its file
  pub record IsPieceOfEnd (end : TracedEnd) (piece : Piece) : Type 0 where
    pub at_first : piece.milliseconds ≡ 0
    pub is_sender : piece.sender ≡ end
    pub input : List ℕ
    pub told : AreBytesOf (form_of raw) piece.bytes.items input

  -- the pieces of an end: one where a file is named for it, else none
  abbrev pub ArePiecesOfEnd : TracedEnd → Option (Bor (List ℕ)) → List Piece → Type 0
  ArePiecesOfEnd end None pieces = pieces ≡ []
  ArePiecesOfEnd end (Some file) pieces = (piece : Piece) × IsPieceOfEnd end piece × (pieces ≡ piece ∷ [])

  -- why a file gives no piece, as it is told with the file's name: it can't be read, or has another form
  abbrev pub IsFaultOfEnd : Option (Bor (List ℕ)) → CommandFault → Type 0
  IsFaultOfEnd None fault = ⊥
  IsFaultOfEnd (Some file) fault = (why : RunFault) × IsUnfound (form_of raw) why × IsOfFile file.now why fault

-- the pieces of both ends, the host's first
abbrev pub ArePiecesOfBoth : StreamTrace → List Piece → Type 0
ArePiecesOfBoth asked pieces = (host station : List Piece) × ArePiecesOfEnd asked.raw Host asked.host host
    × ArePiecesOfEnd asked.raw Station asked.station station × (pieces ≡ host ++ station)

-- why there are no pieces of both: the host's file is at fault, or only the station's
abbrev pub IsFaultOfBoth : StreamTrace → CommandFault → Type 0
IsFaultOfBoth asked fault = IsFaultOfEnd asked.raw asked.host fault ⊎ ((host : List Piece)
    × ArePiecesOfEnd asked.raw Host asked.host host × IsFaultOfEnd asked.raw asked.station fault)

-- a fault of printing, as it is told
abbrev pub told_untimed : RunFault → CommandFault
told_untimed Write = Unwritten
told_untimed fault = Told (Run fault)

module _ {S : Type 0} (out : Printout S) (has_output : Bool) (asked : StreamTrace) where
  -- the dialogue of the files' pieces was printed
  abbrev pub HasTraced : Bool → Type 0
  HasTraced accepted = (pieces : List Piece) × ArePiecesOfBoth asked pieces
      × IsCarriedOut out.writer out.from out.to (at_output has_output (dialogue_action asked.form pieces)) (Ok accepted)

  -- it wasn't: a file is at fault, and nothing was written; or this was met in printing it
  abbrev pub IsFaultOfTrace : CommandFault → Type 0
  IsFaultOfTrace fault = (IsFaultOfBoth asked fault × (out.to ≡ out.from)) ⊎ ((pieces : List Piece) × (why : RunFault)
      × ArePiecesOfBoth asked pieces × (fault ≡ told_untimed why)
      × IsCarriedOut out.writer out.from out.to (at_output has_output (dialogue_action asked.form pieces)) (Err why))
