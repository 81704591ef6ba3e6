-- What comes of the calls of a block at its site.
use Rattle.std.proofs.Common.{◌≡◌, ◌≢◌, ◌==◌, ℕ, List, [], ◌∷◌, length, Bool, true, false, Some, None, Ok, refl, sym, ap, subst, ◌∙◌}
use Rattle.std.specs.Prelude.{Option}
use Rattle.std.proofs.lemmas.Bool.{eqb-true}
use Rattle.std.proofs.lemmas.List.{nil_from_length}
use Rattle.rep_values.specs.declared.name.SiteName.{SiteName}
use Rattle.script_parse.specs.declared.proc_line.CallWords.{CallWords}
use Rattle.proc_state.specs.declared.call.ProcCall.{ProcCall}
use Rattle.proc_state.specs.State.{ProcState}
use Rattle.proc_state.specs.Calling.{calls_here, proc_call, proc_call_answer}
use Rattle.proc_state.specs.Events.{AreCalls}
use Rattle.proc_calls.specs.declared.stop.ProcStop.{ProcStop}
use Rattle.proc_calls.specs.declared.stop.ProcStop.TheVariants.{Failed, Memory}
use Rattle.proc_calls.specs.Stops.{StopsAs}
use Rattle.world_state.specs.declared.call_block.CallStop.{CallStop}
use Rattle.world_state.specs.CallBlocks.{calls_of, masters_named, words_sent, queue_number, words_number, words_stop, failed_stop, calls_stop}
use Rattle.world_calls.specs.declared.sending.SendStop.{SendStop}
use Rattle.world_calls.specs.Sending.{call_stop_of, StopsSend}
use Rattle.world_calls.proofs.CallWalk.{can_be_made}

-- calls stop at the one that fails
pub stops_so : (calls : List ProcCall) (x : ProcState) (stop : ProcStop) → StopsAs (calls_here calls x) stop → StopsSend (failed_stop (proc_call_answer calls x)) (call_stop_of stop)
stops_so calls x (Failed call error) is = rw is refl
stops_so calls x Memory is = tt

module _ (x : ProcState) (calls : List CallWords) (made : List ProcCall) (made_is : made ≡ calls_of x calls) (some : calls ≢ []) (passes : words_stop x 1 calls ≡ None) where
  -- no words are refused, so the calls can be made
  pub made_are : AreCalls x.schema x.procedures made
  made_are = subst (λ (cs : List ProcCall). AreCalls x.schema x.procedures cs) (sym made_is) (can_be_made x calls some passes)

  -- and these decide
  calls_decide : calls_stop x calls ≡ failed_stop (proc_call_answer made x)
  calls_decide = rw (passes, made_is) refl

  -- where they stop all stops
  pub stop_all : (stop : SendStop) → StopsSend (failed_stop (proc_call_answer made x)) stop → StopsSend (calls_stop x calls) stop
  stop_all stop stops = subst (λ (o : Option CallStop). StopsSend o stop) (sym calls_decide) stops

  module _ (number : ℕ) (answered : proc_call_answer made x ≡ Ok number) where
    -- where they don't nothing does
    pub made_pass : calls_stop x calls ≡ None
    made_pass = calls_decide ∙ rw answered refl

    pub made_number : number ≡ words_number calls (Some x)
    made_number = go calls some made_is
      where
        go : (cs : List CallWords) → cs ≢ [] → made ≡ calls_of x cs → number ≡ words_number cs (Some x)
        go [] some is = absurd (some refl)
        go (c ∷ cs) some is = sym (ap (λ (ps : List ProcCall). queue_number (proc_call_answer ps x)) (sym is) ∙ ap queue_number answered)

  pub made_sent : (to names : List SiteName) (y : ProcState) → names ≡ masters_named to x → y ≡ proc_call made names x → y ≡ words_sent calls to x
  made_sent to names y names_are is = go calls some made_is
    where
      go : (cs : List CallWords) → cs ≢ [] → made ≡ calls_of x cs → y ≡ words_sent cs to x
      go [] some same = absurd (some refl)
      go (c ∷ cs) some same = is ∙ ap (λ (ns : List SiteName). proc_call made ns x) names_are ∙ ap (λ (ps : List ProcCall). proc_call ps (masters_named to x) x) same

-- with no calls nothing happens
pub none_sent : (x : ProcState) (calls : List CallWords) (to : List SiteName) → calls ≡ [] → (x ≡ words_sent calls to x) × (calls_stop x calls ≡ None) × (0 ≡ words_number calls (Some x))
none_sent x calls to none = rw none (refl, refl, refl)

-- words that are refused stop the calls
pub words_stop_all : (x : ProcState) (calls : List CallWords) (stop : CallStop) → words_stop x 1 calls ≡ Some stop → calls_stop x calls ≡ Some stop
words_stop_all x calls stop stops = rw stops refl

-- ---- whether there are calls

module _ (calls : List CallWords) (none : Bool) (is : none ≡ (length calls == 0)) where
  -- there are none
  pub no_calls : none ≡ true → calls ≡ []
  no_calls empty = nil_from_length calls (eqb-true (length calls) 0 (sym is ∙ empty))

  -- there are some
  pub some_calls : none ≡ false → calls ≢ []
  some_calls some nil =
      let yes : none ≡ true = subst (λ (cs : List CallWords). none ≡ (length cs == 0)) nil is in
      cc (yes, some)
