-- The names that the proofs cite most, of the crates below and of the specs, passed on from one place.

pub use Rattle.std.proofs.Math.Seq.{drop-append_seam}
pub use Rattle.std.specs.Prelude.{IfErr, OnErr}
pub use Rattle.ws_code.specs.Code.{Stands}
pub use Rattle.ws_code.specs.declared.code.Push.{Push}
pub use Rattle.ws_code.specs.declared.code.Push.TheVariants.{More, Unit as Whole, Bad}
pub use Rattle.ws_telnet.proofs.LastRecords.{one_end}
pub use Rattle.ws_telnet.proofs.Streams.{ends_with_one}
pub use Rattle.ws_telnet.proofs.TokenLists.{one_join}
pub use Rattle.ws_telnet.proofs.Unfinished.{iac_goes_on}
pub use Rattle.ws_telnet.specs.Streams.{LeavesOpen}
pub use Rattle.ws_telnet.specs.declared.codes.TheConstants.{EOR}
pub use Rattle.ws_identity.specs.Environ.{EnvironState, environ_answer, is_of_environ}
pub use Rattle.ws_record.proofs.Common.{map-append, IsPrefixFree, IsSpelled, Begins, same_last, Token, Data, Eor}
pub use Rattle.ws_record.proofs.Common.{TelnetToken, no_end, length-take, each_on, AllByRecursion, take_at}
pub use Rattle.ws_record.proofs.Common.{IsOpenPrefix, IsUnfinished, IsCut, SpellsBytes, one_cut, CanEnd, cut_ends}
pub use Rattle.ws_record.proofs.Common.{cut_unit, AllByRecursion-append, carried, HasNoEor, token_prefix_free}
pub use Rattle.ws_record.proofs.Common.{token_begins, IsRecord, record_bytes, IsStretch, IsFramed, CanBeFramed}
pub use Rattle.ws_record.proofs.Common.{IsRefused, Layer, IsReason, Tokens, Header, Body, BeginsList, IsFirstClosedTo}
pub use Rattle.ws_record.proofs.Common.{EndsWithToken, EndsRecord, IsBodyReason, header_reason, common_steps, AreBytes}
pub use Rattle.ws_record.proofs.Common.{AreBytes-apart, drop-front, IsBodyBytes, Command, Negotiate, Subnegotiate, IAC}
pub use Rattle.ws_record.proofs.Common.{AreBytes-front, plain_byte, ArePlain, AllByRecursion-front, AllByRecursion-last}
pub use Rattle.ws_record.proofs.Common.{front_bytes, take_more, fresh_begins}
pub use Rattle.ws_record.proofs.Encodings.{holds_data, holds_more, holds_command, holds_record, parts_of}
pub use Rattle.ws_record.proofs.Encodings.{record_bytes_are, holds_nothing}
pub use Rattle.ws_record.proofs.Lives.{holds_values}
pub use Rattle.ws_record.proofs.OpenPrefixes.{refused_forms}
pub use Rattle.ws_record.proofs.Reading.{one_items, parts_no_eor, one_record}
pub use Rattle.ws_record.proofs.Refusals.{held}
pub use Rattle.ws_keys.specs.declared.answer.Answer.{Answer}
pub use Rattle.ws_end.proofs.Common.{◌≡◌, ℕ, List, [], ◌∷◌, ◌++◌, None, refl, sym, ap, ◌∙◌, inl, inr, true}
pub use Rattle.ws_end.proofs.Common.{flat_map-append, Rules, token_rules, item_spelling, plain_spelling, Holds, Item}
pub use Rattle.ws_end.proofs.Common.{RecordItem, TelnetItem, Act, Did, Happen, Happening, doing, Refuses, GoesOn, arith}
pub use Rattle.ws_end.proofs.Common.{length, take, suc, ◌≤◌, ◌<◌, ◌+◌, ◌-◌, ◌^◌, Ok, Err, Result, IsSome, cases_lt}
pub use Rattle.ws_end.proofs.Common.{append-nil, append_assoc, length-append, zero, OnOk, take-take, length_rest}
pub use Rattle.ws_end.proofs.Common.{bytes_on, left_of, bytes_came, came_append, all_came, drop, Reason, joined, Record}
pub use Rattle.ws_end.proofs.Common.{subst, subst₂, ap₂, spelling_of, Bool, if◌then◌else◌, RecordBeforeNegotiation}
pub use Rattle.ws_end.proofs.Common.{Option, Some, IfOk, record_spelling, header, PutGet, Read, Attention}
pub use Rattle.ws_end.proofs.Common.{SystemRequest, false, Telnet, ◌&&◌, telnet_bytes, station_answer}
pub use Rattle.ws_end.proofs.Common.{station_allows_records, ◌⊎◌, length-take-le, Arrives, as_list, TakesNoMore, map}
pub use Rattle.ws_end.proofs.Common.{telnet_spelling, take-append-drop, ◌≢◌, take_all, get_or, IsTrace, items_of}
pub use Rattle.ws_end.proofs.Common.{IsChain, rules, on_ok_weaker}
pub use Rattle.ws_end.proofs.EndRequests.{SpellsOn}
pub use Rattle.ws_end.proofs.EndSteps.{trace_none}
pub use Rattle.ws_end.proofs.Feedings.{value_at, last_of}
pub use Rattle.ws_end.proofs.Shuts.{none_reached}
pub use Rattle.ws_end.specs.ActLaws.{bytes_append}
pub use Rattle.ws_end.specs.Acts.{Came, AllTaken, bytes_of, protocol_of}
pub use Rattle.ws_end.specs.Behaviour.{TakesSome}
pub use Rattle.ws_end.specs.Ends.{IsShut}
pub use Rattle.ws_end.specs.Reaction.{Reaction, goes_on}
pub use Rattle.ws_end.specs.attached.Requests.{HasDoneKey}
pub use Rattle.ws_end.specs.declared.end_step.Applied.{Applied}
pub use Rattle.ws_end.specs.declared.end_step.EndFed.{EndFed}
pub use Rattle.ws_end.specs.declared.end_step.EndStep.{EndStep}
pub use Rattle.ws_end.specs.declared.refusal.Refusal.{Refusal}
pub use Rattle.ws_end.specs.declared.refusal.Refusal.TheVariants.{Failed, At, Memory}
pub use Rattle.ws_end.specs.declared.station.key_fault.KeyFault.{KeyFault}
pub use Rattle.ws_end.specs.declared.station.key_fault.KeyFault.TheVariants.{Failed as KeyFailed}
pub use Rattle.ws_end.specs.driver.Driven.{Driven, Driving, IsReached, Come, DriverPushes, GoesOnAt, IsWhy, Bring}
pub use Rattle.ws_end.specs.driver.Driven.{DriverFeeds, transitions_of}
pub use Rattle.ws_end.specs.driver.Reacting.{at_reaction}
pub use Rattle.ws_end.specs.station.AnswerSpelling.{sent_by}
pub use Rattle.ws_end.specs.station.Displays.{DisplayOf, KeyReactionOn, EndStateOn, on_display, RefusesKey, Silent}
pub use Rattle.ws_end.specs.station.Displays.{Answers, Signals, OnDisplay}
pub use Rattle.ws_end.specs.station.StationReacting.{applied_by, at_item_on, transitions_on, StationStands}
pub use Rattle.ws_end.specs.station.StationReacting.{station_driving}
pub use Rattle.ws_end.specs.station.StationTransitions.{at_key_on, key_on, takes_on}
pub use Rattle.ws_end.specs.station.Stations.{ReachedOn, IsKeyedOn, ItemsOf, AtStationOn, PartsOn}
pub use Rattle.ws_lasting.specs.AsStation.{all_carried_out}
pub use Rattle.ws_lasting.specs.Behaviour.{AreQuiet, AreTakenSo, EndsAt, LastingRefuses, lasting_behaviour, LeadsOnFrom}
pub use Rattle.ws_lasting.specs.Behaviour.{LastingTraces, lasting_key_judged}
pub use Rattle.ws_lasting.specs.Counting.{IsCounted}
pub use Rattle.ws_lasting.specs.Footings.{AtLasting, LastingOf, LastingStep, bytes_written, IsByteTaken}
pub use Rattle.ws_lasting.specs.Footings.{IsRefusalPlaced, LastingParts, ReadsOrPasses, StandsAt, IsKeyHeard}
pub use Rattle.ws_lasting.specs.Footings.{IsPassingOver, IsReading, IsReplied, IsWordHeard, IsFollowed}
pub use Rattle.ws_lasting.specs.Footings.{IsEndedFor, IsRefusalPlacedSo, StaysShut, told_place}
pub use Rattle.ws_lasting.specs.Fronts.{IsFrontTaken, IsWordRefused}
pub use Rattle.ws_lasting.specs.Identity.{identity_told, environ_after, reply_to}
pub use Rattle.ws_lasting.specs.Lasting.{Footing, IsAtByte, Lasts, FootingOn, IsPerformed, IsRefusedFor, IsDeclined}
pub use Rattle.ws_lasting.specs.Lasting.{IsTokenStep, may_pass_over}
pub use Rattle.ws_lasting.specs.LastingLaws.{leads_both, lasts_both, counted_both, counted_none, leads_none}
pub use Rattle.ws_lasting.specs.Negative.{negative, is_of_record}
pub use Rattle.ws_lasting.specs.Others.{OthersAsBefore}
pub use Rattle.ws_lasting.specs.Records.{IsUnfit, IsSpoilt}
pub use Rattle.ws_lasting.specs.declared.lasting_reply.LastingReply.{LastingReply}
pub use Rattle.ws_lasting.specs.declared.lasting_reply.LastingReply.TheVariants.{Station}
pub use Rattle.ws_lasting.specs.declared.record_counts.RecordCounts.{RecordCounts}
pub use Rattle.ws_lasting.specs.declared.record_event.RecordEvent.{RecordEvent}
pub use Rattle.ws_lasting.specs.declared.record_event.RecordEvent.TheVariants.{CarriedOut, Refused}
pub use Rattle.ws_lasting.specs.declared.record_event.RefusedRecord.{RefusedRecord}
