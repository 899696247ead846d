-- The names that the proofs cite most, passed on from one place.

pub use Rattle.std.specs.List.{flat_map, AllByRecursion}
pub use Rattle.std.specs.Option.{is_some, option_or}
pub use Rattle.std.proofs.Common.{ap, ◌≡◌, refl, ◌∷◌, ◌++◌, ◌∙◌, take, List, [], sym, Some, None, drop, ◌+◌, ℕ, inl}
pub use Rattle.std.proofs.Common.{not, Option, length, false, Bool, true, ◌<◌, ◌≤◌, inr, arith, get_or, ◌^◌}
pub use Rattle.std.proofs.Common.{length-append, length-take, map, append_assoc}
pub use Rattle.std.proofs.lemmas.List.{append-nil, take_all, take_more, drop_more, drop_all}
pub use Rattle.ws_code.specs.Code.{Rules, IsChain, IsPrefix, IsSpelled, IsUnfinished}
pub use Rattle.ws_code.specs.declared.fault.Fault.{Fault}
pub use Rattle.ws_code.specs.declared.reason.Reason.{Reason}
pub use Rattle.ws_telnet.proofs.OneToken.{fresh_begins}
pub use Rattle.ws_telnet.specs.declared.token.Token.{Token}
pub use Rattle.ws_telnet.specs.declared.token.Token.TheVariants.{Data, Eor, Telnet as TelnetToken}
pub use Rattle.ws_record.specs.Grammar.{IsInGrammar, Holds, IsStretch, commands}
pub use Rattle.ws_record.specs.declared.record.Item.{Item}
pub use Rattle.ws_record.specs.declared.record.Item.TheVariants.{Record as RecordItem, Telnet as TelnetItem}
pub use Rattle.ws_record.specs.declared.record.Record.{Record}
pub use Rattle.ws_extended.specs.Asking.{asks_in, second_reason}
pub use Rattle.ws_extended.specs.ExtendedAnswers.{extended_answer_rules}
pub use Rattle.ws_extended.specs.ExtendedElements.{extended_rules, place_behind}
pub use Rattle.ws_extended.specs.ExtendedViews.{ExtendedParts, leaves_write_open, NeedsOpenWrite, Shows}
pub use Rattle.ws_extended.specs.declared.ask.Ask.{Ask}
pub use Rattle.ws_extended.specs.declared.extended_element.ExtendedElement.{ExtendedElement}
pub use Rattle.ws_extended.specs.declared.extended_place.ExtendedPlace.{ExtendedPlace}
pub use Rattle.ws_extended_station.specs.ExtendedRecords.{elements_fault}
pub use Rattle.ws_text.proofs.Prints.{prints_both, whole_out, prints_same}
pub use Rattle.ws_trace.specs.Ends.{EndAt, entry_at, Tracing, IsWholeItem, told_with, AreSteps, made_of}
pub use Rattle.ws_trace.specs.Readers.{ReaderParts, IsNextOf, StandsThere, is_eor}
pub use Rattle.ws_trace.specs.Reading.StreamStanding.{Reads, Passes}
pub use Rattle.ws_trace.specs.TraceText.{end_records, end_refusals, sent_by_end}
pub use Rattle.ws_trace.specs.Tracers.{Tracks, TracerParts, IsAdded, IsWholeCame}
pub use Rattle.ws_trace.specs.declared.piece.Piece.{Piece}
pub use Rattle.ws_trace.specs.declared.piece.TracedEnd.TheVariants.{Host, Station}
pub use Rattle.ws_trace.specs.declared.told.Told.TheVariants.{Whole, Refused}
