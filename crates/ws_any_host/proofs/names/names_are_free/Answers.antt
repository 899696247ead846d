use Rattle.std.specs.Option.{option_map_or}
use Rattle.std.proofs.Common.{◌≡◌, ◌≢◌, ℕ, List, Option, Some, None, refl, ap, ◌∙◌}
use Rattle.ws_telnet.specs.declared.token.Sub.{Sub}
use Rattle.ws_telnet.specs.declared.token.Telnet.{Telnet}
use Rattle.ws_telnet.specs.declared.token.Telnet.TheVariants.{Command, Option as Negotiate, Sub as Subnegotiate}
use Rattle.ws_nego.specs.Host.{HostState, host_answer, host_judgement, host_name_answer, host_sub_answer, name_in}
use Rattle.ws_nego.specs.Options.{Answer}
use Rattle.ws_nego.specs.Terminal.{terminal_type_name, terminal_named}
use Rattle.ws_nego.specs.declared.host.TerminalName.{TerminalName}
use Rattle.ws_nego.specs.declared.host.TerminalName.TheVariants.{Unknown, Requested, Accepted}
use Rattle.ws_nego.specs.declared.terminal.TerminalType.{TerminalType}
use Rattle.ws_nego.specs.declared.terminal.TerminalType.TheVariants.{Ibm3179Model2}
use Rattle.ws_any_host.specs.AnyOptions.{AnswersAlike, Negotiated, answer_with, any_answer, known_sub, name_after, name_behind}
use Rattle.ws_any_host.proofs.names.names_are_free.Goals as goal

known : terminal_named (terminal_type_name Ibm3179Model2) ≡ Some Ibm3179Model2
unfolding terminal_named
known = refl

-- such a one is judged well
taken : (h : HostState) (state : TerminalName) (kept : List ℕ)
    → answer_with kept (host_name_answer h state (terminal_type_name Ibm3179Model2)) ≢ None
taken h Requested kept e = let f = rw known at e in cc
taken h Unknown kept e = cc
taken h (Accepted terminal) kept e = cc

any_taken : (n : Negotiated) (sub : Sub) (name : List ℕ) → name_in sub ≡ Some name
    → any_answer n (Subnegotiate sub) ≢ None
any_taken n sub name e = rw e (taken n.host n.host.name (name_behind n.host.name n.name (Some name)))

any_kept : (n : Negotiated) (sub : Sub) (name : List ℕ) → name_in sub ≡ Some name → n.host.name ≡ Requested
    → name_after n (Subnegotiate sub) ≡ name
any_kept n sub name e asked = rw (e, asked) refl

-- with the same answer of a host end it is alike
same_answer : (name : List ℕ) (o : Option (Answer HostState)) (answer : Answer HostState) → o ≡ Some answer
    → AnswersAlike (answer_with name o) answer
same_answer name o answer e = rw e (refl, refl)

-- the judgement of one name is that of another, but for the terminal
judged : (h : HostState) (kept : List ℕ) (terminal : Option TerminalType) (answer : Answer HostState)
    → host_judgement h terminal ≡ Some answer
    → AnswersAlike (answer_with kept (host_judgement h (Some Ibm3179Model2))) answer
judged h kept None answer e = cc
judged h kept (Some terminal) answer e =
    (cc, ap (λ (o : Option (Answer HostState)). option_map_or (λ a. a.after.modes) o h.modes) e)

named_alike : (h : HostState) (state : TerminalName) (kept name : List ℕ) (answer : Answer HostState)
    → host_name_answer h state name ≡ Some answer
    → AnswersAlike (answer_with kept (host_name_answer h state (terminal_type_name Ibm3179Model2))) answer
named_alike h Requested kept name answer e = rw known (judged h kept (terminal_named name) answer e)
named_alike h Unknown kept name answer e = same_answer kept _ answer e
named_alike h (Accepted terminal) kept name answer e = same_answer kept _ answer e

sub_alike : (n : Negotiated) (sub : Sub) (told : Option (List ℕ)) (kept : List ℕ) (answer : Answer HostState)
    → name_in sub ≡ told → host_sub_answer n.host told ≡ Some answer
    → AnswersAlike (answer_with kept (host_answer n.host (known_sub sub told))) answer
sub_alike n sub None kept answer is e = same_answer kept _ answer (ap (host_sub_answer n.host) is ∙ e)
sub_alike n sub (Some name) kept answer is e = named_alike n.host n.host.name kept name answer e

any_alike : (n : Negotiated) (token : Telnet) (answer : Answer HostState) → host_answer n.host token ≡ Some answer
    → AnswersAlike (any_answer n token) answer
any_alike n (Command code) answer e = same_answer n.name _ answer e
any_alike n (Negotiate verb option) answer e = same_answer n.name _ answer e
any_alike n (Subnegotiate sub) answer e =
    sub_alike n sub (name_in sub) (name_after n (Subnegotiate sub)) answer refl e

pub returns : goal.returns
returns c = record { taken = any_taken; kept = any_kept; alike = any_alike }
