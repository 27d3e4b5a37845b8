-- Every public function's own promise is tight: a field for each. The three functions over the trace reader stand in `Readers.antt`.
use Rattle.std.specs.Prelude.{◌≡◌, ℕ, length}
use mir.Val.{Fits}
use mir.Syntax.{w64, Dict}
use denote.RattleType.{RattleType}
use denote.Param.Laws.{Laws}
use Rattle.rules.proofs as rules
use Rattle.boards.proofs as boards
use Rattle.words.proofs as words
use Rattle.records.proofs as records
use Rattle.marks.proofs as marks
use Rattle.lines.proofs as lines
use Rattle.ready.proofs as ready
use Rattle.canon.proofs as canon
use Rattle.places.proofs as places
use Rattle.sound.proofs as sound
use Rattle.waiting.proofs as waiting
use Rattle.threads.proofs as threads
use Rattle.mail.proofs as mail
use Rattle.semaphores.proofs as semaphores
use Rattle.time.proofs as time
use Rattle.sleep.proofs as sleep
use Rattle.request.proofs as request
use Rattle.answer.proofs as answer
use Rattle.kernel.proofs as kernel
use Rattle.reader.proofs as reader
use Rattle.buffer.proofs as buffer
use Rattle.text.proofs as text
use Rattle.writer.proofs as writer
use Rattle.replay.proofs as replay
use Rattle.accounts.proofs as accounts
use Rattle.lags.proofs as lags
use Rattle.buffer.specs.declared.Buffer.TheInside.{Inside}
use Rattle.buffer.specs.declared.Buffer.TheView.{view, invariant}
use Rattle.tight.specs.Promise.{Determines, DeterminesBehind}

pub record Each : Type 2 where
  -- rules
  pub rules_i32_from_refusal : Determines rules.codes.I32FromRefusal.from.Kinds.ps rules.codes.I32FromRefusal.from.Kinds.r rules.codes.I32FromRefusal.from.Reads.Pre rules.codes.I32FromRefusal.from.Reads.Post
  pub rules_outcome_from_u8 : Determines rules.codes.OutcomeFromU8.from.Kinds.ps rules.codes.OutcomeFromU8.from.Kinds.r rules.codes.OutcomeFromU8.from.Reads.Pre rules.codes.OutcomeFromU8.from.Reads.Post
  pub rules_u8_from_outcome : Determines rules.codes.U8FromOutcome.from.Kinds.ps rules.codes.U8FromOutcome.from.Kinds.r rules.codes.U8FromOutcome.from.Reads.Pre rules.codes.U8FromOutcome.from.Reads.Post
  -- boards
  pub boards_is_long : Determines boards.is_long.Kinds.ps boards.is_long.Kinds.r boards.is_long.Reads.Pre boards.is_long.Reads.Post
  pub boards_kernel_from : Determines boards.kernel_from.Kinds.ps boards.kernel_from.Kinds.r boards.kernel_from.Reads.Pre boards.kernel_from.Reads.Post
  pub boards_semaphore_from : Determines boards.semaphore_from.Kinds.ps boards.semaphore_from.Kinds.r boards.semaphore_from.Reads.Pre boards.semaphore_from.Reads.Post
  pub boards_semaphores : Determines boards.semaphores.Kinds.ps boards.semaphores.Kinds.r boards.semaphores.Reads.Pre boards.semaphores.Reads.Post
  pub boards_threads : Determines boards.threads.Kinds.ps boards.threads.Kinds.r boards.threads.Reads.Pre boards.threads.Reads.Post
  -- words
  pub words_long_at : Determines words.long_at.Kinds.ps words.long_at.Kinds.r words.long_at.Reads.Pre words.long_at.Reads.Post
  pub words_put_word : Determines words.put_word.Kinds.ps words.put_word.Kinds.r words.put_word.Reads.Pre words.put_word.Reads.Post
  pub words_word_at : Determines words.word_at.Kinds.ps words.word_at.Kinds.r words.word_at.Reads.Pre words.word_at.Reads.Post
  -- records
  pub records_counter_of : Determines records.counter_of.Kinds.ps records.counter_of.Kinds.r records.counter_of.Reads.Pre records.counter_of.Reads.Post
  pub records_free_thread : Determines records.free_thread.Kinds.ps records.free_thread.Kinds.r records.free_thread.Reads.Pre records.free_thread.Reads.Post
  pub records_head : Determines records.head.Kinds.ps records.head.Kinds.r records.head.Reads.Pre records.head.Reads.Post
  pub records_is_delaying : Determines records.is_delaying.Kinds.ps records.is_delaying.Kinds.r records.is_delaying.Reads.Pre records.is_delaying.Reads.Post
  pub records_is_pending : Determines records.is_pending.Kinds.ps records.is_pending.Kinds.r records.is_pending.Reads.Pre records.is_pending.Reads.Post
  pub records_is_receiving : Determines records.is_receiving.Kinds.ps records.is_receiving.Kinds.r records.is_receiving.Reads.Pre records.is_receiving.Reads.Post
  pub records_is_sending : Determines records.is_sending.Kinds.ps records.is_sending.Kinds.r records.is_sending.Reads.Pre records.is_sending.Reads.Post
  pub records_is_waiting : Determines records.is_waiting.Kinds.ps records.is_waiting.Kinds.r records.is_waiting.Reads.Pre records.is_waiting.Reads.Post
  pub records_load_sem : Determines records.load_sem.Kinds.ps records.load_sem.Kinds.r records.load_sem.Reads.Pre records.load_sem.Reads.Post
  pub records_load_thread : Determines records.load_thread.Kinds.ps records.load_thread.Kinds.r records.load_thread.Reads.Pre records.load_thread.Reads.Post
  pub records_lock : Determines records.lock.Kinds.ps records.lock.Kinds.r records.lock.Reads.Pre records.lock.Reads.Post
  pub records_running : Determines records.running.Kinds.ps records.running.Kinds.r records.running.Reads.Pre records.running.Reads.Post
  pub records_set_counter : Determines records.set_counter.Kinds.ps records.set_counter.Kinds.r records.set_counter.Reads.Pre records.set_counter.Reads.Post
  pub records_set_lock : Determines records.set_lock.Kinds.ps records.set_lock.Kinds.r records.set_lock.Reads.Pre records.set_lock.Reads.Post
  pub records_set_mail : Determines records.set_mail.Kinds.ps records.set_mail.Kinds.r records.set_mail.Reads.Pre records.set_mail.Reads.Post
  pub records_set_outcome : Determines records.set_outcome.Kinds.ps records.set_outcome.Kinds.r records.set_outcome.Reads.Pre records.set_outcome.Reads.Post
  pub records_set_place : Determines records.set_place.Kinds.ps records.set_place.Kinds.r records.set_place.Reads.Pre records.set_place.Reads.Post
  pub records_set_priority : Determines records.set_priority.Kinds.ps records.set_priority.Kinds.r records.set_priority.Reads.Pre records.set_priority.Reads.Post
  pub records_set_running : Determines records.set_running.Kinds.ps records.set_running.Kinds.r records.set_running.Reads.Pre records.set_running.Reads.Post
  pub records_set_sem : Determines records.set_sem.Kinds.ps records.set_sem.Kinds.r records.set_sem.Reads.Pre records.set_sem.Reads.Post
  pub records_set_suspended : Determines records.set_suspended.Kinds.ps records.set_suspended.Kinds.r records.set_suspended.Reads.Pre records.set_suspended.Reads.Post
  pub records_set_turn : Determines records.set_turn.Kinds.ps records.set_turn.Kinds.r records.set_turn.Reads.Pre records.set_turn.Reads.Post
  pub records_set_wait : Determines records.set_wait.Kinds.ps records.set_wait.Kinds.r records.set_wait.Reads.Pre records.set_wait.Reads.Post
  pub records_set_word : Determines records.set_word.Kinds.ps records.set_word.Kinds.r records.set_word.Reads.Pre records.set_word.Reads.Post
  pub records_store_thread : Determines records.store_thread.Kinds.ps records.store_thread.Kinds.r records.store_thread.Reads.Pre records.store_thread.Reads.Post
  pub records_thread_at : Determines records.thread_at.Kinds.ps records.thread_at.Kinds.r records.thread_at.Reads.Pre records.thread_at.Reads.Post
  pub records_word : Determines records.word.Kinds.ps records.word.Kinds.r records.word.Reads.Pre records.word.Reads.Post
  -- marks
  pub marks_first_mark : Determines marks.first_mark.Kinds.ps marks.first_mark.Kinds.r marks.first_mark.Reads.Pre marks.first_mark.Reads.Post
  pub marks_has_mark : Determines marks.has_mark.Kinds.ps marks.has_mark.Kinds.r marks.has_mark.Reads.Pre marks.has_mark.Reads.Post
  pub marks_line_of : Determines marks.line_of.Kinds.ps marks.line_of.Kinds.r marks.line_of.Reads.Pre marks.line_of.Reads.Post
  pub marks_line_mark : Determines marks.line_mark.Kinds.ps marks.line_mark.Kinds.r marks.line_mark.Reads.Pre marks.line_mark.Reads.Post
  pub marks_mark_of : Determines marks.mark_of.Kinds.ps marks.mark_of.Kinds.r marks.mark_of.Reads.Pre marks.mark_of.Reads.Post
  pub marks_number_of : Determines marks.number_of.Kinds.ps marks.number_of.Kinds.r marks.number_of.Reads.Pre marks.number_of.Reads.Post
  -- lines
  pub lines_fill : Determines lines.fill.Kinds.ps lines.fill.Kinds.r lines.fill.Reads.Pre lines.fill.Reads.Post
  pub lines_first_if_any : Determines lines.first_if_any.Kinds.ps lines.first_if_any.Kinds.r lines.first_if_any.Reads.Pre lines.first_if_any.Reads.Post
  pub lines_first_of : Determines lines.first_of.Kinds.ps lines.first_of.Kinds.r lines.first_of.Reads.Pre lines.first_of.Reads.Post
  pub lines_in_rank : Determines lines.in_rank.Kinds.ps lines.in_rank.Kinds.r lines.in_rank.Reads.Pre lines.in_rank.Reads.Post
  pub lines_is_ready : Determines lines.is_ready.Kinds.ps lines.is_ready.Kinds.r lines.is_ready.Reads.Pre lines.is_ready.Reads.Post
  pub lines_join : Determines lines.join.Kinds.ps lines.join.Kinds.r lines.join.Reads.Pre lines.join.Reads.Post
  pub lines_leave : Determines lines.leave.Kinds.ps lines.leave.Kinds.r lines.leave.Reads.Pre lines.leave.Reads.Post
  pub lines_length : Determines lines.length.Kinds.ps lines.length.Kinds.r lines.length.Reads.Pre lines.length.Reads.Post
  pub lines_line_length : Determines lines.line_length.Kinds.ps lines.line_length.Kinds.r lines.line_length.Reads.Pre lines.line_length.Reads.Post
  pub lines_to_tail : Determines lines.to_tail.Kinds.ps lines.to_tail.Kinds.r lines.to_tail.Reads.Pre lines.to_tail.Reads.Post
  -- ready
  pub ready_highest : Determines ready.highest.Kinds.ps ready.highest.Kinds.r ready.highest.Reads.Pre ready.highest.Reads.Post
  pub ready_leave : Determines ready.leave.Kinds.ps ready.leave.Kinds.r ready.leave.Reads.Pre ready.leave.Reads.Post
  pub ready_moved : (F : RattleType) (l : Laws F) (g : _) (d e : Dict) → Determines (ready.moved.Kinds.ps F l) (ready.moved.Kinds.r F l) (ready.moved.Reads.Pre F l g d e) (ready.moved.Reads.Post F l g d e)
  pub ready_ready_bit : Determines ready.ready_bit.Kinds.ps ready.ready_bit.Kinds.r ready.ready_bit.Reads.Pre ready.ready_bit.Reads.Post
  pub ready_settle : Determines ready.settle.Kinds.ps ready.settle.Kinds.r ready.settle.Reads.Pre ready.settle.Reads.Post
  pub ready_top_thread : Determines ready.top_thread.Kinds.ps ready.top_thread.Kinds.r ready.top_thread.Reads.Pre ready.top_thread.Reads.Post
  -- canon
  pub canon_kernel_canon : Determines canon.kernel_canon.Kinds.ps canon.kernel_canon.Kinds.r canon.kernel_canon.Reads.Pre canon.kernel_canon.Reads.Post
  pub canon_sem_canon : Determines canon.sem_canon.Kinds.ps canon.sem_canon.Kinds.r canon.sem_canon.Reads.Pre canon.sem_canon.Reads.Post
  pub canon_thread_canon : Determines canon.thread_canon.Kinds.ps canon.thread_canon.Kinds.r canon.thread_canon.Reads.Pre canon.thread_canon.Reads.Post
  pub canon_thread_zero : Determines canon.thread_zero.Kinds.ps canon.thread_zero.Kinds.r canon.thread_zero.Reads.Pre canon.thread_zero.Reads.Post
  -- places
  pub places_all_placed : Determines places.all_placed.Kinds.ps places.all_placed.Kinds.r places.all_placed.Reads.Pre places.all_placed.Reads.Post
  pub places_noted_all_placed : Determines places.Noted.all_placed.Kinds.ps places.Noted.all_placed.Kinds.r places.Noted.all_placed.Reads.Pre places.Noted.all_placed.Reads.Post
  pub places_new : Determines places.Noted.new.Kinds.ps places.Noted.new.Kinds.r places.Noted.new.Reads.Pre places.Noted.new.Reads.Post
  pub places_note : Determines places.Noted.note.Kinds.ps places.Noted.note.Kinds.r places.Noted.note.Reads.Pre places.Noted.note.Reads.Post
  -- sound
  pub sound_sound : Determines sound.sound.Kinds.ps sound.sound.Kinds.r sound.sound.Reads.Pre sound.sound.Reads.Post
  -- waiting
  pub waiting_accept : Determines waiting.accept.Kinds.ps waiting.accept.Kinds.r waiting.accept.Reads.Pre waiting.accept.Reads.Post
  pub waiting_block : Determines waiting.block.Kinds.ps waiting.block.Kinds.r waiting.block.Reads.Pre waiting.block.Reads.Post
  pub waiting_break_off : Determines waiting.break_off.Kinds.ps waiting.break_off.Kinds.r waiting.break_off.Reads.Pre waiting.break_off.Reads.Post
  pub waiting_end_wait : Determines waiting.end_wait.Kinds.ps waiting.end_wait.Kinds.r waiting.end_wait.Reads.Pre waiting.end_wait.Reads.Post
  pub waiting_in_use : Determines waiting.in_use.Kinds.ps waiting.in_use.Kinds.r waiting.in_use.Reads.Pre waiting.in_use.Reads.Post
  pub waiting_may_wait : Determines waiting.may_wait.Kinds.ps waiting.may_wait.Kinds.r waiting.may_wait.Reads.Pre waiting.may_wait.Reads.Post
  pub waiting_must_wait : Determines waiting.must_wait.Kinds.ps waiting.must_wait.Kinds.r waiting.must_wait.Reads.Pre waiting.must_wait.Reads.Post
  pub waiting_serve : Determines waiting.serve.Kinds.ps waiting.serve.Kinds.r waiting.serve.Reads.Pre waiting.serve.Reads.Post
  pub waiting_wait_counter : Determines waiting.wait_counter.Kinds.ps waiting.wait_counter.Kinds.r waiting.wait_counter.Reads.Pre waiting.wait_counter.Reads.Post
  -- threads
  pub threads_cancel : Determines threads.cancel.Kinds.ps threads.cancel.Kinds.r threads.cancel.Reads.Pre threads.cancel.Reads.Post
  pub threads_create : Determines threads.create.Kinds.ps threads.create.Kinds.r threads.create.Reads.Pre threads.create.Reads.Post
  pub threads_delay : Determines threads.delay.Kinds.ps threads.delay.Kinds.r threads.delay.Reads.Pre threads.delay.Reads.Post
  pub threads_delete : Determines threads.delete.Kinds.ps threads.delete.Kinds.r threads.delete.Reads.Pre threads.delete.Reads.Post
  pub threads_resume : Determines threads.resume.Kinds.ps threads.resume.Kinds.r threads.resume.Reads.Pre threads.resume.Reads.Post
  pub threads_set_priority : Determines threads.set_priority.Kinds.ps threads.set_priority.Kinds.r threads.set_priority.Reads.Pre threads.set_priority.Reads.Post
  pub threads_set_turn : Determines threads.set_turn.Kinds.ps threads.set_turn.Kinds.r threads.set_turn.Reads.Pre threads.set_turn.Reads.Post
  pub threads_suspend : Determines threads.suspend.Kinds.ps threads.suspend.Kinds.r threads.suspend.Reads.Pre threads.suspend.Reads.Post
  pub threads_yield_turn : Determines threads.yield_turn.Kinds.ps threads.yield_turn.Kinds.r threads.yield_turn.Reads.Pre threads.yield_turn.Reads.Post
  -- mail
  pub mail_receive : Determines mail.receive.Kinds.ps mail.receive.Kinds.r mail.receive.Reads.Pre mail.receive.Reads.Post
  pub mail_send : Determines mail.send.Kinds.ps mail.send.Kinds.r mail.send.Reads.Pre mail.send.Reads.Post
  pub mail_send_from_interrupt : Determines mail.send_from_interrupt.Kinds.ps mail.send_from_interrupt.Kinds.r mail.send_from_interrupt.Reads.Pre mail.send_from_interrupt.Reads.Post
  -- semaphores
  pub semaphores_abort : Determines semaphores.abort.Kinds.ps semaphores.abort.Kinds.r semaphores.abort.Reads.Pre semaphores.abort.Reads.Post
  pub semaphores_drop_semaphore : Determines semaphores.drop_semaphore.Kinds.ps semaphores.drop_semaphore.Kinds.r semaphores.drop_semaphore.Reads.Pre semaphores.drop_semaphore.Reads.Post
  pub semaphores_make : Determines semaphores.make.Kinds.ps semaphores.make.Kinds.r semaphores.make.Reads.Pre semaphores.make.Reads.Post
  pub semaphores_pend : Determines semaphores.pend.Kinds.ps semaphores.pend.Kinds.r semaphores.pend.Reads.Pre semaphores.pend.Reads.Post
  pub semaphores_post : Determines semaphores.post.Kinds.ps semaphores.post.Kinds.r semaphores.post.Reads.Pre semaphores.post.Reads.Post
  pub semaphores_post_from_interrupt : Determines semaphores.post_from_interrupt.Kinds.ps semaphores.post_from_interrupt.Kinds.r semaphores.post_from_interrupt.Reads.Pre semaphores.post_from_interrupt.Reads.Post
  -- time
  pub time_lock : Determines time.lock.Kinds.ps time.lock.Kinds.r time.lock.Reads.Pre time.lock.Reads.Post
  pub time_outcome : Determines time.outcome.Kinds.ps time.outcome.Kinds.r time.outcome.Reads.Pre time.outcome.Reads.Post
  pub time_tick : Determines time.tick.Kinds.ps time.tick.Kinds.r time.tick.Reads.Pre time.tick.Reads.Post
  pub time_unlock : Determines time.unlock.Kinds.ps time.unlock.Kinds.r time.unlock.Reads.Pre time.unlock.Reads.Post
  -- sleep
  pub sleep_leap : Determines sleep.leap.Kinds.ps sleep.leap.Kinds.r sleep.leap.Reads.Pre sleep.leap.Reads.Post
  pub sleep_nearest : Determines sleep.nearest.Kinds.ps sleep.nearest.Kinds.r sleep.nearest.Reads.Pre sleep.nearest.Reads.Post
  pub sleep_ticks : Determines sleep.ticks.Kinds.ps sleep.ticks.Kinds.r sleep.ticks.Reads.Pre sleep.ticks.Reads.Post
  -- request
  pub request_decode : Determines request.decode.Kinds.ps request.decode.Kinds.r request.decode.Reads.Pre request.decode.Reads.Post
  pub request_request_of : Determines request.request_of.Kinds.ps request.request_of.Kinds.r request.request_of.Reads.Pre request.request_of.Reads.Post
  -- answer
  pub answer_code : Determines answer.code.Kinds.ps answer.code.Kinds.r answer.code.Reads.Pre answer.code.Reads.Post
  pub answer_put_answer : Determines answer.put_answer.Kinds.ps answer.put_answer.Kinds.r answer.put_answer.Reads.Pre answer.put_answer.Reads.Post
  pub answer_value : Determines answer.value.Kinds.ps answer.value.Kinds.r answer.value.Reads.Pre answer.value.Reads.Post
  -- kernel
  pub kernel_speltmallet_door : Determines kernel.speltmallet_door.Kinds.ps kernel.speltmallet_door.Kinds.r kernel.speltmallet_door.Reads.Pre kernel.speltmallet_door.Reads.Post
  -- reader
  pub reader_read_from : Determines reader.read_from.Kinds.ps reader.read_from.Kinds.r reader.read_from.Reads.Pre reader.read_from.Reads.Post
  -- buffer
  pub buffer_as_slice : (N : ℕ) (f : Fits w64 N) → DeterminesBehind (buffer.Buffer.as_slice.Kinds.ps N f) (buffer.Buffer.as_slice.Kinds.r N f) (λ κs z. z.now) (buffer.Buffer.as_slice.Reads.Pre N f) (buffer.Buffer.as_slice.Reads.Post N f)
  pub buffer_clear : (N : ℕ) (f : Fits w64 N) → Determines (buffer.Buffer.clear.Kinds.ps N f) (buffer.Buffer.clear.Kinds.r N f) (buffer.Buffer.clear.Reads.Pre N f) (buffer.Buffer.clear.Reads.Post N f)
  pub buffer_drop_front : (N : ℕ) (f : Fits w64 N) → Determines (buffer.Buffer.drop_front.Kinds.ps N f) (buffer.Buffer.drop_front.Kinds.r N f) (buffer.Buffer.drop_front.Reads.Pre N f) (buffer.Buffer.drop_front.Reads.Post N f)
  pub buffer_extend : (N : ℕ) (f : Fits w64 N) → Determines (buffer.Buffer.extend.Kinds.ps N f) (buffer.Buffer.extend.Kinds.r N f) (buffer.Buffer.extend.Reads.Pre N f) (buffer.Buffer.extend.Reads.Post N f)
  pub buffer_len : (N : ℕ) (f : Fits w64 N) → Determines (buffer.Buffer.len.Kinds.ps N f) (buffer.Buffer.len.Kinds.r N f) (buffer.Buffer.len.Reads.Pre N f) (buffer.Buffer.len.Reads.Post N f)
  pub buffer_new : (N : ℕ) (f : Fits w64 N) → Determines (buffer.Buffer.new.Kinds.ps N f) (buffer.Buffer.new.Kinds.r N f) (buffer.Buffer.new.Reads.Pre N f) (buffer.Buffer.new.Reads.Post N f)
  -- the bytes of a buffer determine its whole place: so a field that determines the one determines every byte that was lent
  pub buffer_place : (N : ℕ) (a b : Inside N) → length a.bytes ≡ N → length b.bytes ≡ N → invariant N a → invariant N b → view N a ≡ view N b → a ≡ b
  pub buffer_push : (N : ℕ) (f : Fits w64 N) → Determines (buffer.Buffer.push.Kinds.ps N f) (buffer.Buffer.push.Kinds.r N f) (buffer.Buffer.push.Reads.Pre N f) (buffer.Buffer.push.Reads.Post N f)
  -- text
  pub text_put_field : (N : ℕ) (f : Fits w64 N) → Determines (text.put_field.Kinds.ps N f) (text.put_field.Kinds.r N f) (text.put_field.Reads.Pre N f) (text.put_field.Reads.Post N f)
  pub text_put_line : (N : ℕ) (f : Fits w64 N) → Determines (text.put_line.Kinds.ps N f) (text.put_line.Kinds.r N f) (text.put_line.Reads.Pre N f) (text.put_line.Reads.Post N f)
  pub text_put_number : (N : ℕ) (f : Fits w64 N) → Determines (text.put_number.Kinds.ps N f) (text.put_number.Kinds.r N f) (text.put_number.Reads.Pre N f) (text.put_number.Reads.Post N f)
  pub text_put_short : Determines text.put_short.Kinds.ps text.put_short.Kinds.r text.put_short.Reads.Pre text.put_short.Reads.Post
  pub text_put_short_line : (N : ℕ) (f : Fits w64 N) → Determines (text.put_short_line.Kinds.ps N f) (text.put_short_line.Kinds.r N f) (text.put_short_line.Reads.Pre N f) (text.put_short_line.Reads.Post N f)
  pub text_put_signed : (N : ℕ) (f : Fits w64 N) → Determines (text.put_signed.Kinds.ps N f) (text.put_signed.Kinds.r N f) (text.put_signed.Reads.Pre N f) (text.put_signed.Reads.Post N f)
  -- writer
  pub writer_put_refusal : (N : ℕ) (f : Fits w64 N) → Determines (writer.put_refusal.Kinds.ps N f) (writer.put_refusal.Kinds.r N f) (writer.put_refusal.Reads.Pre N f) (writer.put_refusal.Reads.Post N f)
  pub writer_refuse : Determines writer.refuse.Kinds.ps writer.refuse.Kinds.r writer.refuse.Reads.Pre writer.refuse.Reads.Post
  pub writer_turn : Determines writer.turn.Kinds.ps writer.turn.Kinds.r writer.turn.Reads.Pre writer.turn.Reads.Post
  pub writer_turn_part : (N M : ℕ) (f : Fits w64 N) (g : Fits w64 M) → Determines (writer.turn_part.Kinds.ps N M f g) (writer.turn_part.Kinds.r N M f g) (writer.turn_part.Reads.Pre N M f g) (writer.turn_part.Reads.Post N M f g)
  -- replay
  pub replay_finish : Determines replay.finish.Kinds.ps replay.finish.Kinds.r replay.finish.Reads.Pre replay.finish.Reads.Post
  pub replay_fresh : Determines replay.fresh.Kinds.ps replay.fresh.Kinds.r replay.fresh.Reads.Pre replay.fresh.Reads.Post
  pub replay_put_end : (N : ℕ) (f : Fits w64 N) → Determines (replay.put_end.Kinds.ps N f) (replay.put_end.Kinds.r N f) (replay.put_end.Reads.Pre N f) (replay.put_end.Reads.Post N f)
  pub replay_serve : Determines replay.serve.Kinds.ps replay.serve.Kinds.r replay.serve.Reads.Pre replay.serve.Reads.Post
  pub replay_serve_part : (N M : ℕ) (f : Fits w64 N) (g : Fits w64 M) → Determines (replay.serve_part.Kinds.ps N M f g) (replay.serve_part.Kinds.r N M f g) (replay.serve_part.Reads.Pre N M f g) (replay.serve_part.Reads.Post N M f g)
  -- accounts
  pub accounts_serve : Determines accounts.serve.Kinds.ps accounts.serve.Kinds.r accounts.serve.Reads.Pre accounts.serve.Reads.Post
  pub accounts_serve_part : (N : ℕ) (f : Fits w64 N) → Determines (accounts.serve_part.Kinds.ps N f) (accounts.serve_part.Kinds.r N f) (accounts.serve_part.Reads.Pre N f) (accounts.serve_part.Reads.Post N f)
  -- lags
  pub lags_put_lanes : (N : ℕ) (f : Fits w64 N) → Determines (lags.put_lanes.Kinds.ps N f) (lags.put_lanes.Kinds.r N f) (lags.put_lanes.Reads.Pre N f) (lags.put_lanes.Reads.Post N f)
  pub lags_put_report : Determines lags.put_report.Kinds.ps lags.put_report.Kinds.r lags.put_report.Reads.Pre lags.put_report.Reads.Post
