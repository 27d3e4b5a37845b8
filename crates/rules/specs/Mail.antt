-- Mailboxes: Send, Send from interrupt, Receive.
use Rattle.std.specs.Prelude.{if◌then◌else◌, true, false, ◌||◌, List, ℕ, eqb, ltb}
use Rattle.rules.specs.State.{State, at, caller, receiving, with_mail, with_threads, edit}
use Rattle.rules.specs.Lines.{senders, line_length, first}
use Rattle.rules.specs.Waiting.{Step, refuse, accept, accept_threads, end_wait, must_wait}
use Rattle.rules.specs.Threads.{no_thread}
use Rattle.rules.specs.declared.Thread.{Thread}
use Rattle.rules.specs.declared.Wait.TheVariants.{Receive, Send}
use Rattle.rules.specs.declared.Outcome.TheVariants.{Done}
use Rattle.rules.specs.declared.Refusal.TheVariants.{BadThread, BadOperation}

-- "To a thread waiting to receive, the data ends that wait with 0; to an empty mailbox, it fills it."
unfoldable pub delivered : ℕ → ℕ → List Thread → List Thread
delivered i x ts = if receiving (at ts i).wait then end_wait i Done x ts else edit i (with_mail true x) ts

-- "Send −1, −5: to oneself −5. [..] To a full one, the sender must wait."
unfoldable pub do_send : State → ℕ → ℕ → ℕ → Step
do_send s i n x =
    if no_thread s i then refuse s BadThread else
    if eqb i s.running then refuse s BadOperation else
    if (at s.threads i).full then must_wait s n (Send i) x else
    accept_threads s (delivered i x s.threads)

-- "From an interrupt: −5 under lock or if full."
unfoldable pub do_send_from_interrupt : State → ℕ → ℕ → Step
do_send_from_interrupt s i x =
    if no_thread s i then refuse s BadThread else
    if ltb 0 s.lock || (at s.threads i).full then refuse s BadOperation else
    accept_threads s (delivered i x s.threads)

-- "Then the first waiting sender's data moves in and that wait ends with 0; with no sender the mailbox is empty."
unfoldable pub emptied : ℕ → List Thread → List Thread
emptied r ts =
    if eqb (line_length (senders r) ts) 0
    then edit r (with_mail false 0) ts
    else let i = first (senders r) ts in edit r (with_mail true (at ts i).parcel) (end_wait i Done 0 ts)

-- "Receive −5: a full mailbox gives its data as value [..]. An empty one must wait."
unfoldable pub do_receive : State → ℕ → Step
do_receive s n =
    if (caller s).full
    then accept (with_threads (emptied s.running s.threads) s) (caller s).value
    else must_wait s n Receive 0
