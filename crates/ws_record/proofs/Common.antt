-- The names that the proofs cite most, of the crates below and of the specs, passed on from one place.

pub use Rattle.std.specs.List.{flat_map, AllByRecursion}
pub use Rattle.std.specs.Option.{is_some, unwrap_or}
pub use Rattle.std.specs.Prelude.{◌==◌, IfSome, slice_index, IfNone, if◌then◌else◌}
use Rattle.std.specs.Result.{IsErrAnd}
pub use Rattle.std.proofs.Common.{true, ◌≡◌, ℕ, List, [], ◌∷◌, ◌++◌, take, drop, refl, sym, ap, ◌∙◌, append_assoc, ◌<◌}
pub use Rattle.std.proofs.Common.{◌⊎◌, Result, Ok, Err, IfOk, IfErr, MatchResult, length, ◌*◌, ◌≤◌, inl, inr, false}
pub use Rattle.std.proofs.Common.{arith, eqb-true, ◌+◌, ◌/◌, ◌%◌, ◌^◌, map, zero, suc, get_or, ◌-◌, nat_lt}
pub use Rattle.std.proofs.Common.{length-append, ◌≢◌, Bool, Option, Some, None, length-take, Vec, Global, subst₂, subst}
pub use Rattle.std.proofs.Common.{◌↔◌}
pub use Rattle.std.proofs.Math.ListN.{replicate, get_or-append, drop_of_length-le}
pub use Rattle.std.proofs.Math.Seq.{get_or-append_seam, take-length}
pub use Rattle.std.proofs.lemmas.Bool.{cases_lt, cases_order}
pub use Rattle.std.proofs.lemmas.Bool.Decides.{nat_tests, eqb_tells}
pub use Rattle.std.proofs.lemmas.Grind.{flat_map-append, common_steps}
pub use Rattle.std.proofs.lemmas.List.{append-nil, take-append-drop, take_more, length-take-le, length-replicate}
pub use Rattle.std.proofs.lemmas.List.{take-append-le, take_at, drop-append-le, take_all, map-append}
pub use Rattle.std.proofs.lemmas.List.{append_cancel_left, nil_from_length}
use Rattle.std.proofs.lemmas.Result.{err_from_is_err_and}
pub use Rattle.std.proofs.lemmas.Result.{on_ok_weaker, IfErr-weaker, MatchResult-weaker}
pub use Rattle.ws_code.specs.Code.{Rules, IsSpelled, IsPrefix, IsPrefixFree, IsChain, IsUnfinished, place_after}
pub use Rattle.ws_code.specs.Code.{spelling_of, AreBytes, IsCut}
pub use Rattle.ws_code.specs.Device.{most_reads, list_reader, GaveAll, Reader, Gave, WentOut, Held}
pub use Rattle.ws_code.specs.Keep.{Keeper, holds_last}
pub use Rattle.ws_code.specs.Run.{Reading, HasReadValues, StopsAtLast, IsRunOfValues, WithKeep, intake, with_keep}
pub use Rattle.ws_code.specs.declared.fault.Fault.{Fault}
pub use Rattle.ws_code.specs.declared.fault.Fault.TheVariants.{Refused, Truncated, Memory, Read}
pub use Rattle.ws_code.specs.declared.keep.Kept.{Kept}
pub use Rattle.ws_code.specs.declared.reason.Reason.{Reason}
pub use Rattle.ws_code.proofs.Bytes.{AreBytes-apart, SpellsBytes, byte_at, front_bytes, list_bytes, padding}
pub use Rattle.ws_code.proofs.CodeLaws.{Begins, one_cut, cut_bad, cut_unit, one_begins, one_list, no_end}
pub use Rattle.ws_code.proofs.CodeLaws.{AreBytes-front, AreBytes-append, zeros_are, CanEnd, chain_append}
pub use Rattle.ws_code.proofs.CodeLaws.{place_after-append, cut_ends, cut_begins, chain_next, chain_at}
pub use Rattle.ws_code.proofs.Cuts.{cut_at}
pub use Rattle.ws_code.proofs.DeviceLaws.{list_gave, list_gave_all, list_no_fault, gave_more, gave_all, take_some}
pub use Rattle.ws_code.proofs.DeviceLaws.{held_went_out, length_rest}
pub use Rattle.ws_code.proofs.Lists.{AllByRecursion-append, AllByRecursion-front, AllByRecursion-last, one_last}
pub use Rattle.ws_code.proofs.Lists.{same_front, AllByRecursion-both, all_but_last, last_of, same_last, ten_cells}
pub use Rattle.ws_code.proofs.Lists.{drop-front, empty_take, take_short, both_empty, length_through, run_rest}
pub use Rattle.ws_code.proofs.Lists.{run_slice}
pub use Rattle.ws_code.proofs.Parts.{each_fails, each_more, first_fails, second_fails, third_fails, three_out}
pub use Rattle.ws_code.proofs.Pieces.{bytes_on, each_on, left_of, room_on, upto, left_joined, room_next}
pub use Rattle.ws_code.proofs.RunLaws.{run_unit, is_between, from_first}
pub use Rattle.ws_telnet.specs.Machine.{unfinished_token, sub_of}
pub use Rattle.ws_telnet.specs.Streams.{IsStream, joined, carried, HasNoEor, data_of, EndsRecord, LastRecordMeets}
pub use Rattle.ws_telnet.specs.Streams.{EndsWithToken}
pub use Rattle.ws_telnet.specs.Token.{token_rules, telnet_spelling, doubled, IsTelnet, command_byte, verb_byte}
pub use Rattle.ws_telnet.specs.Token.{token_spelling, IsToken}
pub use Rattle.ws_telnet.specs.TokenLaws.{iac_or_not, doubled_plain, token_prefix_free, token_begins, token_nonempty}
pub use Rattle.ws_telnet.specs.declared.codes.TheConstants.{IAC}
pub use Rattle.ws_telnet.specs.declared.token.Telnet.{Telnet}
pub use Rattle.ws_telnet.specs.declared.token.Telnet.TheVariants.{Command, Option as Negotiate, Sub as Subnegotiate}
pub use Rattle.ws_telnet.specs.declared.token.Token.{Token}
pub use Rattle.ws_telnet.specs.declared.token.Token.TheVariants.{Data, Eor, Telnet as TelnetToken}
pub use Rattle.ws_telnet.proofs.Doubling.{doubled_each, IsDoubling, doubling_ends, doubling_ends_failed, doubling_fails}
pub use Rattle.ws_telnet.proofs.Doubling.{doubling_iac, doubling_plain}
pub use Rattle.ws_telnet.proofs.OneToken.{begins_token, plain_byte, is_token, fresh_begins, word_begun}
pub use Rattle.ws_telnet.proofs.TokenLists.{chain_front, data_chain}
pub use Rattle.ws_record.specs.Advance.{IsAdvance, OnLastNews, awaits_more, Onward}
pub use Rattle.ws_record.specs.Arrived.{ending_at, arrived}
pub use Rattle.ws_record.specs.Body.{IsBody, HasUnitSoFar}
pub use Rattle.ws_record.specs.DataStep.{IsWholeRecord}
pub use Rattle.ws_record.specs.DecodeFrom.{IsSourceFault}
pub use Rattle.ws_record.specs.Encode.{record_spelling, item_spelling, plain_spelling, CanBeEncoded, CanAllBeEncoded}
pub use Rattle.ws_record.specs.Encode.{IsInRange, IsFirst, IsBadSequence, IsTooBig}
pub use Rattle.ws_record.specs.Grammar.{IsInGrammar, IsRecord, Holds, record_bytes, header, opcode_byte, IsFramed}
pub use Rattle.ws_record.specs.Grammar.{IsBodyBytes, IsStretch, Spells, commands}
pub use Rattle.ws_record.specs.HeaderSoFar.{HeaderSoFar, declared, head_in}
pub use Rattle.ws_record.specs.Live.{Watching, Leads, LeadsWith, IsFrontStep, IsLiveStep, CompletesUnit, HoldsPart}
pub use Rattle.ws_record.specs.Live.{stream}
pub use Rattle.ws_record.specs.OpenPrefix.{BeginsList, IsOpenPrefix, IsFirstClosedTo, AreOpenBelow, IsRefusedByPrefix}
pub use Rattle.ws_record.specs.OpenPrefix.{IsTruncatedByPrefix}
pub use Rattle.ws_record.specs.OpenRecord.{CanBeFramed, RecordSoFar, no_record, Keeping, HasRead, IsHead, IsDataRefused}
pub use Rattle.ws_record.specs.OpenRecord.{IsEndRefused}
pub use Rattle.ws_record.specs.Receiver.{MayGrow, IsDecodeFault, Receiving, HasReceived, HasItem, IsTakeAllFault}
pub use Rattle.ws_record.specs.Receiver.{IsTakeFault, IsFeedFault, NoneBefore, given}
pub use Rattle.ws_record.specs.Refusal.{IsRefused, IsTruncated, Layer, IsRight, IsOpen, IsFirstClosed, header_reason}
pub use Rattle.ws_record.specs.Refusal.{IsBodyReason, IsReason}
pub use Rattle.ws_record.specs.Refusal.Layer.{Tokens, Header, Body}
pub use Rattle.ws_record.specs.Steps.{IsStepOf, IsItemOf, IsFedOf}
pub use Rattle.ws_record.specs.Taking.{ArePlain, KeepsTold, IsTaken, IsRecordEnd, IsWordTaken, grown, EndIn}
pub use Rattle.ws_record.specs.Taking.{IsHeaderStep, OnlyIfOn}
pub use Rattle.ws_record.specs.declared.news.Advance.{Advance}
pub use Rattle.ws_record.specs.declared.news.News.{News}
pub use Rattle.ws_record.specs.declared.news.News.TheVariants.{More, Unit as Whole, Open, Close, NoMemory}
pub use Rattle.ws_record.specs.declared.opcode.Opcode.{Opcode}
pub use Rattle.ws_record.specs.declared.opcode.Opcode.TheVariants.{NoOperation, Invite, OutputOnly, PutGet, SaveScreen}
pub use Rattle.ws_record.specs.declared.opcode.Opcode.TheVariants.{RestoreScreen, ReadImmediate, ReadScreen}
pub use Rattle.ws_record.specs.declared.opcode.Opcode.TheVariants.{CancelInvite, MessageLightOn, MessageLightOff}
pub use Rattle.ws_record.specs.declared.record.Head.{Head}
pub use Rattle.ws_record.specs.declared.record.Item.{Item}
pub use Rattle.ws_record.specs.declared.record.Item.TheVariants.{Record as RecordItem, Telnet as TelnetItem}
pub use Rattle.ws_record.specs.declared.record.Record.{Record}

-- the answer by which a `?` hands on a fault
pub handed_on : {T E : Type 0} {fault : E} (r : Result T E) → IsErrAnd r (λ e. e ≡ fault) → r ≡ Err fault
handed_on r is = let p = err_from_is_err_and r is in p.1 ∙ ap Err p.2
