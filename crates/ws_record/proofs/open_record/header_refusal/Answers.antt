use Rattle.ws_record.proofs.Common.{refl}
use Rattle.ws_record.proofs.Headers.{next_cell}
use Rattle.ws_record.proofs.open_record.header_refusal.Goals as goal

pub returns-in-2-clause-some : goal.returns-in-2-clause-some
returns-in-2-clause-some c =
    (λ m f. c.if-byte-ne18.true ((next_cell _ c.args.byte m f).kind_high c.in-2.is), rw c.in-2.is refl)

pub returns-in-3-clause-some : goal.returns-in-3-clause-some
returns-in-3-clause-some c =
    (λ m f. c.if-byte-ne160.true ((next_cell _ c.args.byte m f).kind_low c.in-3.is), rw c.in-3.is refl)

pub returns-in-4-clause-some : goal.returns-in-4-clause-some
returns-in-4-clause-some c =
    (λ m f. c.if-byte-ne0.true ((next_cell _ c.args.byte m f).reserved_high c.in-4.is), rw c.in-4.is refl)

pub returns-in-5-clause-some : goal.returns-in-5-clause-some
returns-in-5-clause-some c =
    (λ m f. c.if-byte-ne0-2.true ((next_cell _ c.args.byte m f).reserved_low c.in-5.is), rw c.in-5.is refl)

pub returns-in-6-clause-some : goal.returns-in-6-clause-some
returns-in-6-clause-some c =
    (λ m f. c.if-byte-ne4.true ((next_cell _ c.args.byte m f).variable_length c.in-6.is), rw c.in-6.is refl)
