-- The names that the proofs cite most, passed on from one place.

pub use Rattle.std.specs.List.{Contains, range_with_len}
pub use Rattle.std.specs.Prelude.{Some, codes, Option, None, ◌==◌, if◌then◌else◌, encode_utf8, Result, IfErr, is_some}
pub use Rattle.std.specs.Prelude.{Ok, Err, IfOk, ◌||◌, unwrap_or, MatchOption, OnOk}
pub use Rattle.std.specs.Str.{encode_utf8_all, bytes_eq, all_scalars, IsUtf8, chars}
pub use Rattle.std.specs.Str.Iter.{HasSubslice}
pub use Rattle.std.specs.Str.Lines.{lines}
pub use Rattle.std.specs.Str.Pattern.{FindsCharPrefix}
pub use Rattle.std.proofs.Common.{◌∙◌, ◌≡◌, ◌++◌, ap, ℕ, sym, refl, List, length, arith, [], ◌∷◌, ◌<◌, take, ◌+◌, inr}
pub use Rattle.std.proofs.Common.{◌≤◌, map, length-append, inl, append_assoc, drop, Bool, ◌-◌, true, false, get_or}
pub use Rattle.std.proofs.Common.{subst, ◌≢◌, slice_index, ◌*◌, take-append-drop, ◌^◌, length-drop, suc, lit<, map-id}
pub use Rattle.std.proofs.Common.{not, ◌&&◌, Bor, length-take, rules, zero, eqb, All}
pub use Rattle.std.proofs.lemmas.Bool.{false≢true, and_parts}
pub use Rattle.std.proofs.lemmas.Bool.Decides.{eqb_tells, nat_tests, Decides-eqb}
pub use Rattle.std.proofs.lemmas.Grind.{common_steps}
pub use Rattle.std.proofs.lemmas.Iterator.{YieldsList-from_chars}
pub use Rattle.std.proofs.lemmas.Iterator.Consumers.{YieldsList-end}
pub use Rattle.std.proofs.lemmas.List.{append-nil, take_all, length-take-le, get_or-map, get_or_default, length-map}
pub use Rattle.std.proofs.lemmas.List.{nil_from_length, take_more_set, map_more}
pub use Rattle.std.proofs.lemmas.List.Elements.{Contains-get_or, Contains-append_left, Contains-append_right}
pub use Rattle.std.proofs.lemmas.List.Elements.{Contains-append_cases, contains_decides, All-push, All-contains}
pub use Rattle.std.proofs.lemmas.Result.{on_ok_weaker, IfErr-weaker}
pub use Rattle.std.proofs.lemmas.Str.{scalars-chars, encodes-chars, inside_one, length-encode, len_utf8_bounds}
pub use Rattle.std.proofs.lemmas.Str.Pattern.{IsSplitOnceResult, split_parts, strip_prefix_char, contains_text}
pub use borrow.Author.Tests.{ne_eqb}
pub use Rattle.ws_code.proofs.DeviceLaws.{went_out_none, went_out_both, failed_within_both, gave_more, take_some}
pub use Rattle.ws_code.proofs.PageLaws.{one_to_one}
pub use Rattle.ws_code.specs.Code.{Rules}
pub use Rattle.ws_code.specs.Device.{Writer, WentOut, FailedWithin, Taken, bytes_taken, Writes, Reader, Gave, one_more}
pub use Rattle.ws_code.specs.Keep.{nothing_keeper}
pub use Rattle.ws_code.specs.Run.{intake, with_keep}
pub use Rattle.ws_code.specs.declared.code_page.CodePage.{CodePage}
pub use Rattle.ws_code.specs.declared.reason.Reason.{Reason}
pub use Rattle.ws_record.proofs.Common.{handed_on}
pub use Rattle.ws_record.proofs.Faults.{open_before}
pub use Rattle.ws_record.proofs.Receivers.{refused_append}
pub use Rattle.ws_record.specs.Advance.{IsAdvance}
pub use Rattle.ws_record.specs.Live.{Watching, Leads, stream}
pub use Rattle.ws_record.specs.Refusal.{Layer, IsOpen}
pub use Rattle.ws_record.specs.declared.record.Item.{Item}
pub use Rattle.ws_stream.specs.FieldOrder.{is_attribute}
pub use Rattle.ws_stream.specs.declared.element.Element.{Element}
pub use Rattle.ws_screen.proofs.LineLemmas.{attribute_at-more, text-more}
pub use Rattle.ws_screen.specs.Attributes.{is_hidden}
pub use Rattle.ws_screen.specs.Lines.{attribute_at, shown_under, shown_at}
pub use Rattle.ws_screen.specs.declared.lines.TheConstants.{DUP}
pub use Rattle.ws_screen.specs.declared.shown.Shown.{Shown}
pub use Rattle.ws_keys.specs.declared.key.Key.{Key}
pub use Rattle.ws_session.specs.declared.world.Move.TheVariants.{Key as Press, Cancel, Send, ToStation, ToHost}
pub use Rattle.ws_text.proofs.LineEnds.{is_none}
pub use Rattle.ws_text.proofs.Prints.{prints_both, prints_same, prints_none}
pub use Rattle.ws_text.proofs.Texts.{flat_map_more}
pub use Rattle.ws_text.specs.Printed.{IsPrinted}
pub use Rattle.ws_text.specs.Printing.{Prints}
pub use Rattle.ws_printing.specs.Characters.{without_last_blanks, characters_text, with_first}
pub use Rattle.ws_printing.specs.Checking.{Counts, check_printing, tally_after}
pub use Rattle.ws_printing.specs.ScreenLines.{IsScreenText, IsDisplayText, line_of_row, screen_text}
pub use Rattle.ws_printing.specs.ShownOnPage.{on_page, shown_on, row_on_page, page_037, ShowsAsScreen, cells_on_page}
pub use Rattle.ws_printing.specs.ShownTexts.{IsNeededBy, text_of_shown, IsOnlyFor}
pub use Rattle.ws_printing.specs.SourceChecks.{HasRefusal}
pub use Rattle.ws_printing.specs.declared.check.Tally.{Tally}
pub use Rattle.ws_printing.specs.declared.look.Look.{Look}
pub use Rattle.ws_printing.specs.declared.script.ScriptFault.{ScriptFault}
pub use Rattle.ws_printing.specs.declared.script.ScriptFault.TheVariants.{Line, Memory}
pub use Rattle.ws_printing.specs.script.KeyNames.{key_named}
pub use Rattle.ws_printing.specs.script.KeyWords.{AreNamed}
pub use Rattle.ws_printing.specs.script.Script.{typed_key, IsMove, MeansMoves, IsSendOpcode, IsBodyText, AreTypedMoves}
pub use Rattle.ws_printing.specs.script.Script.{IsCount, IsRecordText, IsScriptLine, AreLines, settling}
pub use Rattle.ws_printing.specs.script.Script.MeansMoves.{one, comment, settle, typed, inserted, empty}
