-- How a request is written, stated apart from the table by which it is read: the record of 12 bytes that asks it. Assumes nothing.
use Rattle.std.specs.Prelude.{List, ◌∷◌, ◌++◌, ℕ}
use Rattle.rules.specs.Table.{word_bytes}
use Rattle.rules.specs.declared.Request.{Request}
use Rattle.rules.specs.declared.Request.TheVariants as Ask

-- operation, object, priority, number and data
abbrev pub fields_of : Request → ℕ × ℕ × ℕ × ℕ × ℕ
fields_of Ask.Yield = (0, 0, 0, 0, 0)
fields_of (Ask.Create thread priority turn) = (1, thread, priority, turn, 0)
fields_of (Ask.Delete thread) = (2, thread, 0, 0, 0)
fields_of (Ask.Suspend thread) = (4, thread, 0, 0, 0)
fields_of (Ask.Resume thread) = (5, thread, 0, 0, 0)
fields_of (Ask.Delay number) = (6, 0, 0, number, 0)
fields_of (Ask.Cancel thread) = (7, thread, 0, 0, 0)
fields_of (Ask.Send thread number parcel) = (8, thread, 0, number, parcel)
fields_of (Ask.SendFromInterrupt thread parcel) = (9, thread, 0, 0, parcel)
fields_of (Ask.Receive number) = (10, 0, 0, number, 0)
fields_of (Ask.Make semaphore number) = (11, semaphore, 0, number, 0)
fields_of (Ask.Drop semaphore) = (12, semaphore, 0, 0, 0)
fields_of (Ask.Pend semaphore number) = (13, semaphore, 0, number, 0)
fields_of (Ask.Abort thread) = (14, thread, 0, 0, 0)
fields_of (Ask.Post semaphore number) = (15, semaphore, 0, number, 0)
fields_of (Ask.PostFromInterrupt semaphore number) = (16, semaphore, 0, number, 0)
fields_of Ask.Lock = (17, 0, 0, 0, 0)
fields_of Ask.Unlock = (18, 0, 0, 0, 0)
fields_of Ask.Tick = (19, 0, 0, 0, 0)
fields_of (Ask.Outcome thread) = (20, thread, 0, 0, 0)
fields_of (Ask.Ticks number) = (21, 0, 0, number, 0)
fields_of Ask.Nearest = (22, 0, 0, 0, 0)
fields_of (Ask.SetPriority thread priority) = (23, thread, priority, 0, 0)
fields_of (Ask.SetTurn thread turn) = (24, thread, 0, turn, 0)

-- "Byte 0 operation; 1 object; 2 priority; 3 zero; 4-7 number; 8-11 data."
abbrev pub record_bytes : ℕ → ℕ → ℕ → ℕ → ℕ → List ℕ
record_bytes operation o p n d = operation ∷ o ∷ p ∷ 0 ∷ (word_bytes n ++ word_bytes d)

unfoldable pub written : Request → List ℕ
written r = let f = fields_of r in record_bytes f.0 f.1 f.2 f.3 f.4
