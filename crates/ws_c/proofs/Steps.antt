-- The names that walks cite
pub use base.Fml.{ftrue, fsep, flft}
pub use base.Logic.{SProp, emp, ent, id⊢, never, fst∗}
pub use contract.BorrowLft.{◌⊑◌}
pub use contract.Monad.{fact, fact_i, Fun}
unfoldable pub use contract.Running.{tables_of}
pub use contract.Running.{tables}
pub use denote.Exit.{no}
pub use denote.Param.{bounded}
pub use denote.RattleType.{owns, RattleType}
pub use denote.RawPtr.{null_ptr, Ptr, RawPtr, block_ptr, ptr_val, in_a_block}
pub use denote.Signature.{types_at, plain}
pub use denote.Steps.{nothing, heard, only}
pub use denote.Struct.Tuple.{Tuple}
pub use denote.Triple.Call.{calls_at, calls_at_last}
pub use denote.Triple.Clauses.{Ended, Clauses}
pub use denote.Triple.Entry.{alive}
pub use denote.Triple.Spec.{triple_of}
pub use denote.Triple.Statement.{Triple, Contract}
pub use denote.Triple.Table.{entered}
pub use denote.Triple.Walked.{Stays, stay_dropped, walk_of, says, ends_at, walk_Meets}
pub use lib.Dec.{T}
pub use mathlib.Core.Bool.{true≢false}
pub use mathlib.Core.Path.{subst, ap, ◌∙◌}
pub use mir.MapTy.{inst_fn}
pub use mir.Syntax.{Fn, Args, Dict, a_type, dcons, dnil, Body, place, copy, assign, rv_opd, seq, return}
pub use mir.Val.{Val, vstruct, of_list, vptr, has_ty, WT}
pub use prog.Memory.{Memory}
pub use prog.Routine.{Routine}
pub use prog.Wp.{Env, WpFn, Tables}
pub use Rattle.std.proofs.alloc.Calls.{Goes-blank, token, handle_tells}
pub use Rattle.std.proofs.BoxSteps.Form.{Bx, D, τ, R, P, B, word, box_typed, args, box_ty}
pub use Rattle.std.proofs.BoxSteps.Steps.{box_out, box_in}
pub use Rattle.std.proofs.Common.{◌≡◌, List, [], ◌∷◌, ◌++◌, refl, sym}
pub use Rattle.std.proofs.raw_atomic.Walks.{proved_at, leaves}
pub use Rattle.std.proofs.ResultValues.{and_tt}
pub use Rattle.std.specs.Box.Ownership.{box_owns}
pub use Rattle.std.specs.contracts.impls.GlobalAllocator.TheImpl.{ghosts}
pub use Rattle.std.specs.Prelude.{Option, None, Some, IsSome}
pub use seplogic.Ra.Ura.{Ura}
pub use sound.WpLaws.{fm_of, WpFn-mono}
pub use types.ByLocal.{alloc_all, pass_all, free_all, look_at, get, sets, env, get_in, lands_as, lands_last}
pub use types.Kit.{‵, raw, ◌⊛◌, prop, ◌$◌, ◌∵◌, !, qed, by, move, drop, use0, split, regoal, fjoin, fsplit, rewrite}
pub use types.Kit.{Item, some, later, use1, join, split3, pick, fpick, feq_l, suffices, await, done, at_ret, feq_i}
pub use types.Logic.{Logic, sem}
pub use types.Part.{agg, whole, sub}
pub use types.Run.{of_opd, lit, no_more, and_then, returns, enter, stop, fld, first, blocks, exec}
