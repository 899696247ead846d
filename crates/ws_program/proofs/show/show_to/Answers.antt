use Rattle.std.proofs.Common.{arith}
use Rattle.ws_stream.specs.Elements.{element_rules}
use Rattle.ws_stream.specs.ElementLaws.{element_begins, element_prefix_free}
use Rattle.ws_program.specs.Views.{host_view}
use Rattle.ws_program.proofs.Parts.{part_begins}
use Rattle.ws_program.proofs.ReadBack.{shows_items}
use Rattle.ws_program.proofs.show.show_to.Goals as goal

pub returns-clause-read_back : goal.returns-clause-read_back
returns-clause-read_back g c = λ text s. shows_items c.args.bytes.now text (omega arith) s

pub returns-clause-parts_begin : goal.returns-clause-parts_begin
returns-clause-parts_begin g c =
    part_begins element_rules element_prefix_free element_begins host_view c.args.bytes.now
