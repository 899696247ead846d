-- The names that the proofs cite most, passed on from one place.

pub use Rattle.ws_end.proofs.Common.{flat_map, ◌&&◌, not, OnOk, IfOk, ◌≡◌, ◌+◌, ◌≤◌, List, [], ◌∷◌, ◌++◌, refl, subst}
pub use Rattle.ws_end.proofs.Common.{◌∙◌, ℕ, zero, suc, ◌<◌, Option, Some, None, take, drop, ap, sym, arith}
pub use Rattle.ws_end.proofs.Common.{take-append-drop, ◌^◌, min, inl, inr, length, get_or, append_assoc, add-one}
pub use Rattle.ws_end.proofs.Common.{length-append, length-drop, drop-cons, ◌≢◌, if◌then◌else◌, ◌⊎◌, Bool, true, false}
pub use Rattle.ws_end.proofs.Common.{is_some, map, nat_lt, ◌-◌, Err, Ok, Result, ap₂, subst₂, take-append-add, cases_lt}
pub use Rattle.ws_end.proofs.Common.{false≢true, nat_tests, flat_map-append, length-take-le, append-nil, take_all}
pub use Rattle.ws_end.proofs.Common.{take-append-le, take-take, drop_all, err_from_is_err_and, on_ok_weaker, Rules}
pub use Rattle.ws_end.proofs.Common.{spelling_of, Gave, one_more, Fault, Reason, RecordBeforeNegotiation, gave_more}
pub use Rattle.ws_end.proofs.Common.{take_some, length_rest, held_went_out, Telnet, host_allows_records, HostState}
pub use Rattle.ws_end.proofs.Common.{Answer, station_allows_records, station_answer, TerminalType, plain_spelling}
pub use Rattle.ws_end.proofs.Common.{item_spelling, record_spelling, header, Opcode, CancelInvite, NoOperation, PutGet}
pub use Rattle.ws_end.proofs.Common.{Item, RecordItem, TelnetItem, Record, header_length, answer_rules, is_body}
pub use Rattle.ws_end.proofs.Common.{element_prefix_free, element_begins, element_rules, AnswerPart, Element}
pub use Rattle.ws_end.proofs.Common.{after_elements, after_end, body_fault, cancelled, History, Edit, ScreenParts}
pub use Rattle.ws_end.proofs.Common.{open_write, Field, ReadKind, one_screen, edit_of, events_by, key_refusal}
pub use Rattle.ws_end.proofs.Common.{read_answer, Read, Attention, SystemRequest, HostAnswer, Key, Send, KeyRefusal}
pub use Rattle.ws_end.proofs.Common.{came_append, bytes_came, Act, all_came, Happening, doing, items_of, Arrives}
pub use Rattle.ws_end.proofs.Common.{as_list, Transitions, Happen, HoldsItems, station_transitions, empty_record}
pub use Rattle.ws_end.proofs.Common.{Refuses, GoesOn, AtHost, HostReached, IsSent, HostParts, HostEndState, sent_record}
pub use Rattle.ws_end.proofs.Common.{is_outstanding, after_read, event_output, ready_event, host_negotiates, host_reads}
pub use Rattle.ws_end.proofs.Common.{host_reads_by, host_ends_cancel, signal, host_takes_record, SendReaction}
pub use Rattle.ws_end.proofs.Common.{RefusesSend, Sends, host_cancel, host_send, answer_spelling, AtStation}
pub use Rattle.ws_end.proofs.Common.{StationParts, StationReached, StationEndState, opcode_events, after_record}
pub use Rattle.ws_end.proofs.Common.{after_key, screen_at, opcode_answer, station_applies, station_takes, KeyReaction}
pub use Rattle.ws_end.proofs.Common.{RefusesKey, station_key, answers_read, key_by_refusal, answer_record}
pub use Rattle.std.specs.List.{AllByRecursion}
pub use Rattle.std.specs.Prelude.{◌||◌, filter}
pub use Rattle.std.proofs.Common.{add-zero, length-take, unwrap_or, replicate}
pub use Rattle.std.proofs.Math.Seq.{take-add, drop-append_seam}
pub use Rattle.std.proofs.lemmas.Bool.{ltb-true, ltb-false}
pub use Rattle.std.proofs.lemmas.List.{drop-drop, map-append}
pub use Rattle.ws_code.specs.Code.{AreBytes}
pub use Rattle.ws_telnet.specs.Token.{IsTelnet}
pub use Rattle.ws_nego.specs.Exchange.{Exchange, TablesAgree, IsExchangeQuiet as NothingInFlight}
pub use Rattle.ws_nego.specs.Exchange.{after_token_move as after_exchange, ToStation as MoveDown, ToHost as MoveUp}
pub use Rattle.ws_nego.specs.Exchange.{after_token_moves as exchange_after, after_all_to_station, after_all_to_host}
pub use Rattle.ws_nego.specs.Exchange.{after_three_deliveries, new_exchange}
pub use Rattle.ws_nego.specs.Host.{host_answer, opening}
pub use Rattle.ws_nego.proofs.Stages.{agrees, settled_quiet, settled_station, settled_host}
pub use Rattle.ws_record.specs.Arrived.{ending_at, arrived}
pub use Rattle.ws_record.specs.Encode.{IsInRange, CanBeEncoded}
pub use Rattle.ws_stream.specs.ElementLaws.{element_bytes}
pub use Rattle.ws_screen.specs.ByHost.{by_host, layouts, read_left_by}
pub use Rattle.ws_screen.specs.Events.{ended}
pub use Rattle.ws_screen.specs.Formats.{fields}
pub use Rattle.ws_screen.specs.ScreenParts.{AreApart, IsLegal}
pub use Rattle.ws_screen.specs.States.{pending_read}
pub use Rattle.ws_screen.proofs.Applies.{longer_by}
pub use Rattle.ws_screen.proofs.ScreenLaws.{Alike, open_write_alike, layout_alike, elements_alike, end_alike}
pub use Rattle.ws_screen.proofs.ScreenLaws.{body_fault_alike, pending-elements, pending-end, layout_same}
pub use Rattle.ws_screen.proofs.ScreenLaws.{by_host-append}
pub use Rattle.ws_keys.specs.Contents.{answer_parts}
pub use Rattle.ws_keys.specs.Keys.{is_answered, is_aid_key}
pub use Rattle.ws_keys.specs.Splits.{answer_of}
pub use Rattle.ws_keys.proofs.KeyLaws.{aids_answer}
pub use Rattle.ws_keys.proofs.ReadingLaws.{own_reading, same_reading}
pub use Rattle.ws_keys.proofs.StationLaws.{same_apart}
pub use Rattle.ws_end.specs.Acts.{AllTaken}
pub use Rattle.ws_end.specs.EndTransitions.{station_at_item}
pub use Rattle.ws_end.specs.Reaction.{Reaction, goes_on}
pub use Rattle.ws_session.specs.Telnets.{telnets}
pub use Rattle.ws_end.specs.declared.end_step.Applied.{Applied}
pub use Rattle.ws_end.specs.declared.end_step.HostRequest.TheVariants.{Cancel as Cancelling}
pub use Rattle.ws_end.specs.declared.host_end.host_event.HostEvent.{HostEvent}
pub use Rattle.ws_end.specs.declared.host_end.host_event.HostEvent.TheVariants.{Answer as Answered, Cancelled}
pub use Rattle.ws_end.specs.declared.host_end.host_event.HostEvent.TheVariants.{Attention as AttentionCame}
pub use Rattle.ws_end.specs.declared.host_end.host_event.HostEvent.TheVariants.{SystemRequest as RequestCame}
pub use Rattle.ws_end.specs.declared.host_end.send_fault.SendFault.{SendFault}
pub use Rattle.ws_end.specs.declared.host_end.send_fault.SendFault.TheVariants.{Failed as SendFailed}
pub use Rattle.ws_end.specs.declared.host_end.send_fault.SendFault.TheVariants.{Memory as NoMemory, NotAllowed}
pub use Rattle.ws_end.specs.declared.host_end.send_fault.SendFault.TheVariants.{ReadOutstanding, NoReadToCancel}
pub use Rattle.ws_end.specs.declared.host_end.send_fault.SendFault.TheVariants.{BadSequence, TooBig}
pub use Rattle.ws_end.specs.declared.host_end.send_fault.SendFault.TheVariants.{Screen as RefusedByScreen}
pub use Rattle.ws_end.specs.declared.refusal.Refusal.{Refusal}
pub use Rattle.ws_end.specs.declared.refusal.Refusal.TheVariants.{At, Failed, Memory}
pub use Rattle.ws_end.specs.declared.station.answer.TheConstants.{ATN, SRQ}
pub use Rattle.ws_end.specs.declared.station.key_fault.KeyFault.{KeyFault}
pub use Rattle.ws_end.specs.declared.station.key_fault.KeyFault.TheVariants.{Failed as KeyFailed, NotReady}
pub use Rattle.ws_session.specs.declared.world.Event.{Event}
pub use Rattle.ws_session.specs.declared.world.Event.TheVariants.{Host, KeyRefused, SendRefused}
pub use Rattle.ws_session.specs.declared.world.Move.{Move}
pub use Rattle.ws_session.specs.declared.world.Move.TheVariants.{ToStation, ToHost, Cancel, Key as Press}
pub use Rattle.ws_session.specs.declared.world.Move.TheVariants.{Send as SendMove}
pub use Rattle.ws_end.specs.driver.Driven.{IsWhy}
pub use Rattle.ws_end.specs.driver.Reacting.{at_reaction}
pub use Rattle.ws_end.specs.host_end.HostReached.{unopened_host_end}
pub use Rattle.ws_end.specs.host_end.HostReacting.{host_driving}
pub use Rattle.ws_end.specs.host_end.HostEndState.{host_takes, HostOutput, host_sends_body, is_too_big}
pub use Rattle.ws_end.specs.host_end.HostEndState.{ready_by_terminal}
pub use Rattle.ws_session.specs.world.Answered.{answers_in, answer_in, items_coming, is_answer, answers_coming}
pub use Rattle.ws_session.specs.world.Answered.{host_answers}
pub use Rattle.ws_end.specs.station.StationEndState.{Silent, Answers, Signals, sends, presses}
pub use Rattle.ws_session.specs.world.Crossings.{Crossing, with_piece_at, AreFaithful, HaveCrossed, IsStopped, all_sent}
pub use Rattle.ws_session.specs.world.Crossings.{all_read}
pub use Rattle.ws_session.specs.world.Deliveries.{delivery, three_deliveries}
pub use Rattle.ws_session.specs.world.Refusals.{is_refusal, refusals_in}
pub use Rattle.ws_session.specs.declared.world.Report.{Report}
pub use Rattle.ws_session.specs.world.Reports.{IsReport, IsOpened}
pub use Rattle.ws_session.specs.world.Runs.{AreWritable, WorldParts, RunsWith, Runs, IsKey, IsGiven, at_station_end}
pub use Rattle.ws_session.specs.world.Runs.{at_host_end}
pub use Rattle.ws_session.specs.world.Through.{HasRefusedIn, Through}
pub use Rattle.ws_session.specs.world.Wires.{WireParts, reported, HasMemory, Comes, at_end, AreDelivered}
pub use Rattle.ws_session.specs.world.Session.{Session, new_session, after_moves, IsQuiet, after_move, down_bytes}
pub use Rattle.ws_session.specs.world.Session.{station_did, station_gets, byte_to_station, up_bytes, host_did}
pub use Rattle.ws_session.specs.world.Session.{host_gets, byte_to_host, events_with, bytes_to_station, bytes_to_host}
pub use Rattle.ws_session.specs.world.Session.{station_pressed, host_sent, after_press, after_send}
