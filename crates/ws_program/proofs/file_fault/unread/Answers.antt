use Rattle.std.specs.Prelude.{Some}
use Rattle.std.proofs.Common.{ℕ, List, inl, inr, refl, sym, ap}
use Rattle.ws_script.specs.declared.asked.fault.RunFault.TheVariants as run
use Rattle.ws_script.specs.declared.asked.fault.ToldFault.TheVariants as told
use Rattle.ws_program.specs.FileFaults.{IsOfFile, IsToldOfFile}
use Rattle.ws_program.specs.declared.command_fault.CommandFault.{CommandFault}
use Rattle.ws_program.specs.declared.command_fault.CommandFault.TheVariants.{Told, OfFile}
use Rattle.ws_program.proofs.file_fault.unread.Goals as goal

-- a fault with the name of a file that can't be read
unread_told : (file : List ℕ) (result : CommandFault) → IsOfFile file run.Read result
    → IsToldOfFile (Some file) (told.Run run.Read) result
unread_told file (OfFile fault name why) h = (refl, h.0, ap (λ z. Some z) (sym h.1))
unread_told file (Told fault) (inl e) = inl e
unread_told file (Told fault) (inr e) = inr (refl, e)
unread_told file fault h = absurd h

pub returns-in-Some-why_unread : goal.returns-in-Some-why_unread
returns-in-Some-why_unread g c = rw c.in-Some.is (unread_told c.in-Some.name.now c.named.result c.named.ensures)
