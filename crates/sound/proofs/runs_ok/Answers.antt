-- `sound::runs_ok` meets its contract: who runs is read, and what it must outrank is asked of the ready word. Assumes nothing.
use mathlib.Core.Path.{◌≡◌, ap, sym, subst, ◌∙◌}
use Prim.Native.Nat.{◌≤◌}
use native.Mathlib.Omega.{arith}
use mathlib.Core.Bool.{true}
use borrow.Author.Tests.{eqb-true}
use Rattle.rules.specs.Board.{most_lock}
use Rattle.rules.specs.State.{is_ready, caller}
use Rattle.rules.specs.Test.{kernel_ok}
use Rattle.laws.proofs.Split.{clash}
use Rattle.laws.proofs.Reflect.{not_says, not_fails}
use Rattle.laws.proofs.Tested.{kernel_says}
use Rattle.layout.proofs.Boards.{no_thread_lem}
use Rattle.sound.specs.Tested.{Threads}
use Rattle.sound.proofs.Threads.{as_read, fails}
use Rattle.sound.proofs.Running.{Top, caller_read, highest_top, locked_runs, first_runs_lem}
use Rattle.sound.proofs.runs_ok.Goals.{then-th-ne1, else-th-ne1, else-lock-eq0-via-then-lock-eq0+else-not-is_top, else-lock-eq0-via-else-lock-eq0}
use Rattle.sound.proofs.runs_ok.Goals as goal

pub returns-then-i-threads : goal.returns-then-i-threads
returns-then-i-threads c s e = fails (λ h. clash ((kernel_says s).0 h.1).0.1 (ap is_ready (no_thread_lem c.requires e s.running _ c.threads.ensures.0 (omega (arith, c.running-i.ensures s e)))))

pub returns-then-not-is_ready : goal.returns-then-not-is_ready
returns-then-not-is_ready c s e =
    let own = caller_read s (c.load_thread-th.ensures s e) (c.running-i.ensures s e) in
    fails (λ h. clash ((kernel_says s).0 h.1).0.1 (as_read is_ready own (sym c.is_ready.ensures ∙ c.if-not-is_ready.true)))

pub returns-then-not-is_top : goal.returns-then-not-is_top
returns-then-not-is_top c s e =
    let own = caller_read s (c.load_thread-th.ensures s e) (c.running-i.ensures s e) in
    let free : s.lock ≤ 0 = omega (arith, c.lock.ensures s e) in
    fails {P = Threads c.args.t.now s × (kernel_ok s ≡ true)} (λ h. let runs = (kernel_says s).0 h.1 in elim c.if-th-ne1.branch [
      | then-th-ne1 w ↦ w.if-th-ne1.true (ap (λ th. th.place) own ∙ (runs.1 free).0)
      | else-th-ne1 w ↦
          let top = highest_top _ c.requires s e h.0 runs.0.1 (runs.1 free).1 in
          let right = subst (λ w. Top w (caller s).priority) (sym (w.word.ensures ∙ h.0.word)) top in
          clash (w.is_top.ensures.1 (subst (λ x. Top w.word.result x.priority) (sym own) right)) ((not_says _).0 (sym w.value-is ∙ c.if-not-is_top.true))
    ])

pub returns : goal.returns
returns c s e =
    let own = caller_read s (c.load_thread-th.ensures s e) (c.running-i.ensures s e) in
    let low : s.lock ≤ most_lock = omega (arith, c.lock.type_inv, c.lock.ensures s e) in
    let ready = as_read is_ready own (sym c.is_ready.ensures ∙ c.if-not-is_ready.false) in
    elim c.else-lock-eq0.branch [
      | else-lock-eq0-via-else-lock-eq0 w ↦ locked_runs _ c.requires s e low ready (c.threads_ok.ensures s e) (λ z. w.if-lock-eq0.false (c.lock.ensures s e ∙ z))
      | else-lock-eq0-via-then-lock-eq0+else-not-is_top w ↦ elim w.if-th-ne1.branch [
        | then-th-ne1 v ↦ absurd (v.if-th-ne1.true (eqb-true _ 1 ((not_fails _).0 (sym v.value-is ∙ w.if-not-is_top.false))))
        | else-th-ne1 v ↦
            first_runs_lem _ c.requires s e low ready (c.threads_ok.ensures s e)
            (ap (λ th. th.place) (sym own) ∙ v.if-th-ne1.false)
            (λ h. subst (λ w. Top w (caller s).priority) (v.word.ensures ∙ h.word) (subst (λ x. Top v.word.result x.priority) own (v.is_top.ensures.0 ((not_fails _).0 (sym v.value-is ∙ w.if-not-is_top.false)))))
      ]
    ]
