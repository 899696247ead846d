-- The names that the proofs cite most, passed on from one place.

pub use Rattle.std.specs.Prelude.{flat_map, ◌&&◌, not, is_ok, is_err, OnOk, IfOk, IfErr}
pub use Rattle.std.proofs.Common.{◌≡◌, ◌+◌, ◌≤◌, List, [], ◌∷◌, ◌++◌, refl, subst, ◌∙◌, ℕ, zero, suc, ◌<◌, Option, Some}
pub use Rattle.std.proofs.Common.{None, take, drop, ap, sym, arith, take-append-drop, ◌^◌, min, inl, inr, length}
pub use Rattle.std.proofs.Common.{get_or, append_assoc, add-one, length-append, length-drop, drop-cons, ◌≢◌}
pub use Rattle.std.proofs.Common.{if◌then◌else◌, ◌⊎◌, Bool, true, false, is_some, map, nat_lt, ◌-◌, IsSome, Err, Ok}
pub use Rattle.std.proofs.Common.{◌==◌, Result, ◌*◌, rules, ap₂, subst₂}
pub use Rattle.std.proofs.Math.Seq.{take-append-add}
pub use Rattle.std.proofs.lemmas.Bool.{cases_lt, both_ways, false≢true}
pub use Rattle.std.proofs.lemmas.Bool.Decides.{nat_tests, eqb_tells}
pub use Rattle.std.proofs.lemmas.Grind.{flat_map-append}
pub use Rattle.std.proofs.lemmas.List.{length-take-le, append-nil, take_all, take-append-le, take-take, drop_all}
pub use Rattle.std.proofs.lemmas.Result.{err_from_is_err_and, on_ok_weaker, IfErr-weaker}
pub use Rattle.ws_code.specs.Code.{Rules, IsChain, spelling_of}
pub use Rattle.ws_code.specs.Device.{Writer, Reader, WentOut, FailedWithin, Gave, most_reads, one_more}
pub use Rattle.ws_code.specs.Run.{IsAt}
pub use Rattle.ws_code.specs.declared.fault.Fault.{Fault}
pub use Rattle.ws_code.specs.declared.fault.Fault.TheVariants.{Write, Refused, Truncated}
pub use Rattle.ws_code.specs.declared.reason.Reason.{Reason}
pub use Rattle.ws_code.specs.declared.reason.Reason.TheVariants.{RecordBeforeNegotiation, AnswerMismatch}
pub use Rattle.ws_code.proofs.DeviceLaws.{went_out_none, went_out_both, failed_within_both, gave_more, gave_all}
pub use Rattle.ws_code.proofs.DeviceLaws.{take_some, length_rest, held_went_out}
pub use Rattle.ws_code.proofs.Pieces.{left_of, left_joined, bytes_on}
pub use Rattle.ws_telnet.specs.Streams.{joined, command_of}
pub use Rattle.ws_telnet.specs.Token.{telnet_spelling, token_rules}
pub use Rattle.ws_telnet.specs.declared.token.Telnet.{Telnet}
pub use Rattle.ws_nego.specs.Host.{host_allows_records, HostState}
pub use Rattle.ws_nego.specs.Options.{Answer, telnet_bytes, AnswersWith}
pub use Rattle.ws_nego.specs.Station.{station_allows_records, station_answer}
pub use Rattle.ws_nego.specs.declared.terminal.TerminalType.{TerminalType}
pub use Rattle.ws_record.specs.DataStep.{record_of}
pub use Rattle.ws_record.specs.Encode.{plain_spelling, item_spelling, record_spelling}
pub use Rattle.ws_record.specs.Grammar.{header, IsInGrammar, Holds, commands}
pub use Rattle.ws_record.specs.Live.{Watching, Leads}
pub use Rattle.ws_record.specs.OpenRecord.{RecordSoFar, no_record}
pub use Rattle.ws_record.specs.Refusal.{IsTruncated}
pub use Rattle.ws_record.specs.declared.news.News.{News}
pub use Rattle.ws_record.specs.declared.opcode.Opcode.{Opcode}
pub use Rattle.ws_record.specs.declared.opcode.Opcode.TheVariants.{CancelInvite, NoOperation, PutGet}
pub use Rattle.ws_record.specs.declared.record.Head.{Head}
pub use Rattle.ws_record.specs.declared.record.Item.{Item}
pub use Rattle.ws_record.specs.declared.record.Item.TheVariants.{Record as RecordItem, Telnet as TelnetItem}
pub use Rattle.ws_record.specs.declared.record.Record.{Record}
pub use Rattle.ws_record.proofs.Headers.{header_length}
pub use Rattle.ws_stream.specs.AnswerParts.{answer_rules}
pub use Rattle.ws_stream.specs.Bodies.{is_body}
pub use Rattle.ws_stream.specs.ElementLaws.{element_prefix_free, element_begins}
pub use Rattle.ws_stream.specs.Elements.{element_rules}
pub use Rattle.ws_stream.specs.Taking.{reading_of}
pub use Rattle.ws_stream.specs.declared.answer_part.AnswerPart.{AnswerPart}
pub use Rattle.ws_stream.specs.declared.element.Element.{Element}
pub use Rattle.ws_stream.specs.declared.place.Place.{Place}
pub use Rattle.ws_stream.specs.declared.place.Place.TheVariants.{CommandsOnly}
pub use Rattle.ws_screen.specs.Bodies.{after_elements, after_end, body_fault}
pub use Rattle.ws_screen.specs.Events.{cancelled, History, Edit}
pub use Rattle.ws_screen.specs.Given.{Gives, Follows, FollowsAll}
pub use Rattle.ws_screen.specs.ScreenParts.{ScreenParts}
pub use Rattle.ws_screen.specs.Writes.{open_write}
pub use Rattle.ws_screen.specs.declared.field.Field.{Field}
pub use Rattle.ws_screen.specs.declared.read_kind.ReadKind.{ReadKind}
pub use Rattle.ws_screen.proofs.Applies.{gives_end}
pub use Rattle.ws_screen.proofs.ScreenLaws.{one_screen}
pub use Rattle.ws_keys.specs.Contents.{answer_bytes}
pub use Rattle.ws_keys.specs.Keys.{edit_of, events_by, key_refusal, answer_to, IsPressed}
pub use Rattle.ws_keys.specs.Readings.{read_answer, IsRead}
pub use Rattle.ws_keys.specs.Splits.{IsSplit}
pub use Rattle.ws_keys.specs.declared.answer.Answer.TheVariants.{Read, Attention, SystemRequest}
pub use Rattle.ws_keys.specs.declared.host_answer.HostAnswer.{HostAnswer}
pub use Rattle.ws_keys.specs.declared.key.Key.{Key}
pub use Rattle.ws_keys.specs.declared.key.Key.TheVariants.{Aid as Send, Attention as Attend}
pub use Rattle.ws_keys.specs.declared.key.Key.TheVariants.{SystemRequest as PressRequest}
pub use Rattle.ws_keys.specs.declared.key.KeyRefusal.{KeyRefusal}
pub use Rattle.ws_keys.proofs.ReadingLaws.{is_read, read_split}
pub use Rattle.ws_end.specs.ActLaws.{came_append, trace_on, bytes_came}
pub use Rattle.ws_end.specs.Acts.{Doing, Act, all_came, Did, Happening, Does, doing, items_of, IsTrace, Arrives}
pub use Rattle.ws_end.specs.Acts.{as_list, Transitions, Happen, HoldsItems}
pub use Rattle.ws_end.specs.EndTransitions.{station_transitions, host_transitions}
pub use Rattle.ws_end.specs.Reaction.{empty_record, Refuses, GoesOn}
pub use Rattle.ws_end.specs.attached.Attachments.{AttachedParts, fault_of, HaveLed, HaveLedUnwritten, HasRefusedByte}
pub use Rattle.ws_end.specs.attached.Attachments.{IsByteFault, HasTakenWaiting, IsWaitingFault, HasHeard, IsHearFault}
pub use Rattle.ws_end.specs.attached.Playing.{HaveBroughtPlayer, HasDone}
pub use Rattle.ws_end.specs.attached.StationRun.{IsRunFault, IsRun, refusal_count, behind, run_text, RunUnwritten}
pub use Rattle.ws_end.specs.attached.Written.{HasWritten, HasWrittenPrefix, IsUnheard}
pub use Rattle.ws_end.specs.declared.attached.player.Player.{Player}
pub use Rattle.ws_end.specs.declared.end_step.Applied.{Applied}
pub use Rattle.ws_end.specs.declared.end_step.HostRequest.{HostRequest}
pub use Rattle.ws_end.specs.declared.host_end.host_event.HostEvent.{HostEvent}
pub use Rattle.ws_end.specs.declared.host_end.host_event.HostEvent.TheVariants.{Answer as Answered, Cancelled}
pub use Rattle.ws_end.specs.declared.host_end.send_fault.SendFault.{SendFault}
pub use Rattle.ws_end.specs.declared.host_end.send_fault.SendFault.TheVariants.{Failed as SendFailed}
pub use Rattle.ws_end.specs.declared.refusal.Refusal.{Refusal}
pub use Rattle.ws_end.specs.declared.refusal.Refusal.TheVariants.{At, Failed, Memory}
pub use Rattle.ws_end.specs.declared.end_step.EndStep.{EndStep}
pub use Rattle.ws_end.specs.declared.station.key_fault.KeyFault.{KeyFault}
pub use Rattle.ws_end.specs.declared.station.key_fault.KeyFault.TheVariants.{Failed as KeyFailed, NotReady}
pub use Rattle.ws_end.specs.driver.Driven.{IsPrefixTaken, TakesNoMore}
pub use Rattle.ws_end.specs.driver.Reacting.{IsReaction}
pub use Rattle.ws_end.specs.host_end.HostReached.{AtHost, HostReached, IsSent, IsSendFault}
pub use Rattle.ws_end.specs.host_end.HostReacting.{HostKept, HostParts, HostStands, host_reacting, host_at_send}
pub use Rattle.ws_end.specs.host_end.HostEndState.{HostEndState, sent_record, is_outstanding, after_read, event_output}
pub use Rattle.ws_end.specs.host_end.HostEndState.{ready_event, host_negotiates, host_reads, host_reads_by}
pub use Rattle.ws_end.specs.host_end.HostEndState.{host_ends_cancel, signal, host_takes_record, SendReaction}
pub use Rattle.ws_end.specs.host_end.HostEndState.{RefusesSend, Sends, host_cancel, host_send, asked_read}
pub use Rattle.ws_end.specs.station.AnswerSpelling.{answer_spelling}
pub use Rattle.ws_end.specs.station.Moments.{due, later, moments_from, moments, refusals_at, refused_keys}
pub use Rattle.ws_end.specs.station.StationReached.{AtStation, StationParts, StationReached, records_in}
pub use Rattle.ws_end.specs.station.StationEndState.{StationEndState, opcode_events, after_record, after_key, screen_at}
pub use Rattle.ws_end.specs.station.StationEndState.{opcode_answer, station_applies, station_takes, KeyReaction}
pub use Rattle.ws_end.specs.station.StationEndState.{RefusesKey, station_key, answers_read, key_by_refusal}
pub use Rattle.ws_end.specs.station.StationEndState.{new_station_end, answer_record}
