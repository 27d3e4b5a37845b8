-- A step keeps a state sound, whatever is asked and however many threads and semaphores it has: each operation does. Assumes nothing.
use Rattle.rules.specs.State.{State, pending, delaying}
use Rattle.rules.specs.Threads.{do_cancel}
use Rattle.rules.specs.Semaphores.{do_abort}
use Rattle.rules.specs.Steps.{step}
use Rattle.rules.specs.Sound.{Sound}
use Rattle.rules.specs.declared.Request.{Request}
use Rattle.rules.specs.declared.Request.TheVariants as Ask
use Rattle.preservation.proofs.Safe.{Safe}
use Rattle.preservation.proofs.Threads.{safe_yield, safe_create, safe_delete, safe_suspend, safe_resume, safe_delay, safe_break, safe_set_priority, safe_set_turn}
use Rattle.preservation.proofs.Mail.{safe_send, safe_send_from_interrupt, safe_receive}
use Rattle.preservation.proofs.Semaphores.{safe_make, safe_drop, safe_pend, safe_post, safe_post_from_interrupt}
use Rattle.preservation.proofs.Time.{safe_lock, safe_unlock, safe_tick, safe_outcome}
use Rattle.preservation.proofs.Sleep.{safe_ticks, safe_nearest}

pub kept : (s : State) (q : Request) → Sound s → Sound (step s q).state
unfolding step Safe do_cancel do_abort
kept s Ask.Yield σ = safe_yield s σ
kept s (Ask.Create i p n) σ = safe_create s σ i p n
kept s (Ask.Delete i) σ = safe_delete s σ i
kept s (Ask.Suspend i) σ = safe_suspend s σ i
kept s (Ask.Resume i) σ = safe_resume s σ i
kept s (Ask.Delay n) σ = safe_delay s σ n
kept s (Ask.Cancel i) σ = safe_break s σ delaying i
kept s (Ask.Send i n x) σ = safe_send s σ i n x
kept s (Ask.SendFromInterrupt i x) σ = safe_send_from_interrupt s σ i x
kept s (Ask.Receive n) σ = safe_receive s σ n
kept s (Ask.Make k n) σ = safe_make s σ k n
kept s (Ask.Drop k) σ = safe_drop s σ k
kept s (Ask.Pend k n) σ = safe_pend s σ k n
kept s (Ask.Abort i) σ = safe_break s σ pending i
kept s (Ask.Post k n) σ = safe_post s σ k n
kept s (Ask.PostFromInterrupt k n) σ = safe_post_from_interrupt s σ k n
kept s Ask.Lock σ = safe_lock s σ
kept s Ask.Unlock σ = safe_unlock s σ
kept s Ask.Tick σ = safe_tick s σ
kept s (Ask.Outcome i) σ = safe_outcome s σ i
kept s (Ask.Ticks n) σ = safe_ticks s σ n
kept s Ask.Nearest σ = safe_nearest s σ
kept s (Ask.SetPriority i p) σ = safe_set_priority s σ i p
kept s (Ask.SetTurn i n) σ = safe_set_turn s σ i n
