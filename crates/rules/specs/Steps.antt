-- A step: what a request answers and leaves, by its operation.
use Rattle.rules.specs.State.{State}
use Rattle.rules.specs.Waiting.{Step}
use Rattle.rules.specs.Threads.{do_yield, do_create, do_delete, do_suspend, do_resume, do_delay, do_cancel, do_set_priority, do_set_turn}
use Rattle.rules.specs.Mail.{do_send, do_send_from_interrupt, do_receive}
use Rattle.rules.specs.Semaphores.{do_make, do_drop, do_pend, do_abort, do_post, do_post_from_interrupt}
use Rattle.rules.specs.Time.{do_lock, do_unlock, do_tick, do_outcome}
use Rattle.rules.specs.Sleep.{do_ticks, do_nearest}
use Rattle.rules.specs.declared.Request.{Request}
use Rattle.rules.specs.declared.Request.TheVariants as Ask

unfoldable pub step : State → Request → Step
step s Ask.Yield = do_yield s
step s (Ask.Create i p n) = do_create s i p n
step s (Ask.Delete i) = do_delete s i
step s (Ask.Suspend i) = do_suspend s i
step s (Ask.Resume i) = do_resume s i
step s (Ask.Delay n) = do_delay s n
step s (Ask.Cancel i) = do_cancel s i
step s (Ask.Send i n x) = do_send s i n x
step s (Ask.SendFromInterrupt i x) = do_send_from_interrupt s i x
step s (Ask.Receive n) = do_receive s n
step s (Ask.Make k n) = do_make s k n
step s (Ask.Drop k) = do_drop s k
step s (Ask.Pend k n) = do_pend s k n
step s (Ask.Abort i) = do_abort s i
step s (Ask.Post k n) = do_post s k n
step s (Ask.PostFromInterrupt k n) = do_post_from_interrupt s k n
step s Ask.Lock = do_lock s
step s Ask.Unlock = do_unlock s
step s Ask.Tick = do_tick s
step s (Ask.Outcome i) = do_outcome s i
step s (Ask.Ticks n) = do_ticks s n
step s Ask.Nearest = do_nearest s
step s (Ask.SetPriority i p) = do_set_priority s i p
step s (Ask.SetTurn i n) = do_set_turn s i n
