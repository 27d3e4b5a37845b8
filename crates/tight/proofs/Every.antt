-- Each public function's own promise is tight: it is a family of equations with what the table says, and a table says one state; every number
-- is that of one line; a text that is put somewhere is put there. Assumes nothing.
use Rattle.std.specs.Prelude.{ℕ, List, Result, Ok, Err, is_err}
use mathlib.Core.Bool.{true≢false}
use mathlib.Core.Path.{◌≡◌, refl, ap, sym, ◌∙◌}
use native.Mathlib.Omega.{arith}
use Rattle.laws.proofs.Split.{pass_together}
use Rattle.laws.proofs.Word.{power_low}
use Rattle.layout.specs.Held.{said}
use Rattle.layout.proofs.Held.{whole_holds, becomes_one, whole_laid, laid_shows, changes_one}
use Rattle.marks.proofs.Named.{one_line}
use Rattle.marks.proofs.Numbered.{numbered}
use Rattle.waiting.proofs.Doing.{does_one}
use Rattle.places.specs.Rings.{Entries}
use Rattle.text.specs.Puts.{Puts}
use Rattle.buffer.proofs.Place.{same_place}
use Rattle.writer.specs.Places.{reached}
use Rattle.tight.specs.Each.{Each}

-- what was lent first is the same, and nothing else was
first : {A B : Type 0} {x x' : A} {y : B} → x ≡ x' → ◌≡◌ {A = A × B} (x, y) (x', y)
first {y} e = λ j. (e j, y)

-- a text that is put somewhere is put there, and ends there
puts_tight : {entry exit exit' text : List ℕ} {at next next' : ℕ} → Puts entry at text exit next → Puts entry at text exit' next' → (exit ≡ exit') × (next ≡ next')
puts_tight p q = (p.bytes ∙ sym q.bytes, p.place ∙ sym q.place)

-- what is noted is both lists
noted_one : {x y : Entries} → x.lines ≡ y.lines → x.places ≡ y.places → x ≡ y
noted_one e f = λ j. record { lines = e j; places = f j }

-- an answer of two sides is its number, and which side it is
same_result : (r r' : Result ℕ ℕ) → reached r ≡ reached r' → is_err r ≡ is_err r' → r ≡ r'
same_result (Ok m) (Ok n) e k = ap Ok e
same_result (Ok m) (Err n) e k = absurd (true≢false (sym k))
same_result (Err m) (Ok n) e k = absurd (true≢false k)
same_result (Err m) (Err n) e k = ap Err e

pub each : Each
each = record {
  -- rules
  rules_i32_from_refusal = λ κs a z z' ws ws' h p q. (p ∙ sym q, refl);
  rules_outcome_from_u8 = λ κs a z z' ws ws' h p q. (p ∙ sym q, refl);
  rules_u8_from_outcome = λ κs a z z' ws ws' h p q. (p ∙ sym q, refl);
  -- boards
  boards_is_long = λ κs a z z' ws ws' h p q. (pass_together _ _ (λ e. q.1 (p.0 e), λ e. p.1 (q.0 e)), refl);
  boards_kernel_from = λ κs a z z' ws ws' h p q. (p.0 ∙ sym q.0, refl);
  boards_semaphore_from = λ κs a z z' ws ws' h p q. (p.0 ∙ sym q.0, refl);
  boards_semaphores = λ κs a z z' ws ws' h p q. (omega (arith, p, q), refl);
  boards_threads = λ κs a z z' ws ws' h p q. (omega (arith, p.0, q.0), refl);
  -- words
  words_long_at = λ κs a z z' ws ws' h p q. (p ∙ sym q, refl);
  words_put_word = λ κs a z z' ws ws' h p q. (refl, first (p ∙ sym q));
  words_word_at = λ κs a z z' ws ws' h p q. (p ∙ sym q, refl);
  -- records
  records_counter_of = λ κs a z z' ws ws' h p q. (p ∙ sym q, refl);
  records_free_thread = λ κs a z z' ws ws' h p q. (refl, first (changes_one (whole_laid h.1) p q));
  records_head = λ κs a z z' ws ws' h p q. (p ∙ sym q, refl);
  records_is_delaying = λ κs a z z' ws ws' h p q. (p ∙ sym q, refl);
  records_is_pending = λ κs a z z' ws ws' h p q. (p ∙ sym q, refl);
  records_is_receiving = λ κs a z z' ws ws' h p q. (p ∙ sym q, refl);
  records_is_sending = λ κs a z z' ws ws' h p q. (p ∙ sym q, refl);
  records_is_waiting = λ κs a z z' ws ws' h p q. (p ∙ sym q, refl);
  records_load_sem = λ κs a z z' ws ws' h p q. (p _ refl ∙ sym (q _ refl), refl);
  records_load_thread = λ κs a z z' ws ws' h p q. (p _ refl ∙ sym (q _ refl), refl);
  records_lock = λ κs a z z' ws ws' h p q. (p _ refl ∙ sym (q _ refl), refl);
  records_running = λ κs a z z' ws ws' h p q. (p _ refl ∙ sym (q _ refl), refl);
  records_set_counter = λ κs a z z' ws ws' h p q. (refl, first (becomes_one h.1 p q));
  records_set_lock = λ κs a z z' ws ws' h p q. (refl, first (becomes_one h p q));
  records_set_mail = λ κs a z z' ws ws' h p q. (refl, first (becomes_one h.1 p q));
  records_set_outcome = λ κs a z z' ws ws' h p q. (refl, first (becomes_one h.1 p q));
  records_set_place = λ κs a z z' ws ws' h p q. (refl, first (becomes_one h.1 p q));
  records_set_priority = λ κs a z z' ws ws' h p q. (refl, first (changes_one h.1 p q));
  records_set_running = λ κs a z z' ws ws' h p q. (refl, first (becomes_one h.1 p q));
  records_set_sem = λ κs a z z' ws ws' h p q. (refl, first (becomes_one h.1 p q));
  records_set_suspended = λ κs a z z' ws ws' h p q. (refl, first (changes_one h.1 p q));
  records_set_turn = λ κs a z z' ws ws' h p q. (refl, first (becomes_one h.1 p q));
  records_set_wait = λ κs a z z' ws ws' h p q. (refl, first (changes_one h.1 p q));
  records_set_word = λ κs a z z' ws ws' h p q. (refl, first ((p _ _ (laid_shows h)).bytes ∙ sym (q _ _ (laid_shows h)).bytes));
  records_store_thread = λ κs a z z' ws ws' h p q. (refl, first (changes_one (whole_laid h.1) p q));
  records_thread_at = λ κs a z z' ws ws' h p q. (p _ refl ∙ sym (q _ refl), refl);
  records_word = λ κs a z z' ws ws' h p q. (p ∙ sym q, refl);
  -- marks
  marks_first_mark = λ κs a z z' ws ws' h p q. (p ∙ sym q, refl);
  marks_line_of = λ κs a z z' ws ws' h p q. (one_line (p ∙ sym q), refl);
  marks_line_mark = λ κs a z z' ws ws' h p q. (p ∙ sym q, refl);
  marks_mark_of = λ κs a z z' ws ws' h p q. let l = numbered a.0 in (p l.0 l.1 ∙ sym (q l.0 l.1), refl);
  marks_number_of = λ κs a z z' ws ws' h p q. (p ∙ sym q, refl);
  marks_has_mark = λ κs a z z' ws ws' h p q. (p.0 ∙ sym q.0, refl);
  -- lines
  lines_first_if_any = λ κs a z z' ws ws' h p q. (p.1 _ refl ∙ sym (q.1 _ refl), refl);
  lines_first_of = λ κs a z z' ws ws' h p q. let l = numbered a.1.0 in (p _ l.0 refl l.1 ∙ sym (q _ l.0 refl l.1), refl);
  lines_length = λ κs a z z' ws ws' h p q. (p _ refl ∙ sym (q _ refl), refl);
  lines_line_length = λ κs a z z' ws ws' h p q. let l = numbered a.1.0 in (p _ l.0 refl l.1 ∙ sym (q _ l.0 refl l.1), refl);
  lines_fill = λ κs a z z' ws ws' h p q. (refl, first (becomes_one h.1 p q));
  lines_in_rank = λ κs a z z' ws ws' h p q. (p ∙ sym q, refl);
  lines_is_ready = λ κs a z z' ws ws' h p q. (p ∙ sym q, refl);
  lines_join = λ κs a z z' ws ws' h p q. (p.0 _ refl ∙ sym (q.0 _ refl), first (becomes_one h.1 p.1 q.1));
  lines_leave = λ κs a z z' ws ws' h p q. (p.0 _ refl ∙ sym (q.0 _ refl), first (becomes_one h.1 p.1 q.1));
  lines_to_tail = λ κs a z z' ws ws' h p q. (refl, first (becomes_one h.1 p q));
  -- ready
  ready_highest = λ κs a z z' ws ws' h p q. (omega (arith, power_low _ _ _ p.1 q.2, power_low _ _ _ q.1 p.2), refl);
  ready_leave = λ κs a z z' ws ws' h p q. let e = becomes_one h.1 p.1 q.1 in (p.0 _ refl ∙ sym (q.0 _ (ap said (sym e))), first e);
  ready_moved = λ F l g d e κs a z z' ws ws' h p q. let same = becomes_one h.1.0.1 (p.1.1 h.1.1.0 h.1.1.1) (q.1.1 h.1.1.0 h.1.1.1) in (p.0 _ refl ∙ sym (q.0 _ (ap said (sym same))), first same);
  ready_ready_bit = λ κs a z z' ws ws' h p q. (p ∙ sym q, refl);
  ready_settle = λ κs a z z' ws ws' h p q. (refl, first (becomes_one h p q));
  ready_top_thread = λ κs a z z' ws ws' h p q. (p.1 _ refl ∙ sym (q.1 _ refl), refl);
  -- canon
  canon_kernel_canon = λ κs a z z' ws ws' h p q. (p ∙ sym q, refl);
  canon_sem_canon = λ κs a z z' ws ws' h p q. (p ∙ sym q, refl);
  canon_thread_canon = λ κs a z z' ws ws' h p q. (p ∙ sym q, refl);
  canon_thread_zero = λ κs a z z' ws ws' h p q. (p ∙ sym q, refl);
  -- places
  places_all_placed = λ κs a z z' ws ws' h p q. (p.0 ∙ sym q.0, λ j. ((p.1.0 ∙ sym q.1.0) j, first (p.1.1 ∙ sym q.1.1) j));
  places_noted_all_placed = λ κs a z z' ws ws' h p q. (p.0 ∙ sym q.0, first (noted_one (p.1.0 ∙ sym q.1.0) (p.1.1 ∙ sym q.1.1)));
  places_new = λ κs a z z' ws ws' h p q. (noted_one (p.0 ∙ sym q.0) (p.1 ∙ sym q.1), refl);
  places_note = λ κs a z z' ws ws' h p q. (refl, first (noted_one (p.0 ∙ sym q.0) (p.1 ∙ sym q.1)));
  -- sound
  sound_sound = λ κs a z z' ws ws' h p q. (p ∙ sym q, refl);
  -- waiting
  waiting_in_use = λ κs a z z' ws ws' h p q. (p.0 _ refl ∙ sym (q.0 _ refl), refl);
  waiting_may_wait = λ κs a z z' ws ws' h p q. (p _ refl ∙ sym (q _ refl), refl);
  waiting_serve = λ κs a z z' ws ws' h p q. (refl, first (becomes_one h p q));
  waiting_accept = λ κs a z z' ws ws' h p q. let d = does_one h p q in (d.1, first d.0);
  waiting_block = λ κs a z z' ws ws' h p q. let d = does_one h.1.whole p q in (d.1, first d.0);
  waiting_break_off = λ κs a z z' ws ws' h p q. let d = does_one h.whole p q in (d.1, first d.0);
  waiting_end_wait = λ κs a z z' ws ws' h p q. (refl, first (becomes_one h.1 p q));
  waiting_must_wait = λ κs a z z' ws ws' h p q. let d = does_one h.1.whole (p (λ n. a.1.1.0) refl) (q (λ n. a.1.1.0) refl) in (d.1, first d.0);
  waiting_wait_counter = λ κs a z z' ws ws' h p q. (p ∙ sym q, refl);
  -- threads
  threads_cancel = λ κs a z z' ws ws' h p q. let d = does_one h.whole p q in (d.1, first d.0);
  threads_create = λ κs a z z' ws ws' h p q. let d = does_one h.whole p q in (d.1, first d.0);
  threads_delay = λ κs a z z' ws ws' h p q. let d = does_one h.whole p q in (d.1, first d.0);
  threads_delete = λ κs a z z' ws ws' h p q. let d = does_one h.whole p q in (d.1, first d.0);
  threads_resume = λ κs a z z' ws ws' h p q. let d = does_one h.whole p q in (d.1, first d.0);
  threads_set_priority = λ κs a z z' ws ws' h p q. let d = does_one h.whole p q in (d.1, first d.0);
  threads_set_turn = λ κs a z z' ws ws' h p q. let d = does_one h.whole p q in (d.1, first d.0);
  threads_suspend = λ κs a z z' ws ws' h p q. let d = does_one h.whole p q in (d.1, first d.0);
  threads_yield_turn = λ κs a z z' ws ws' h p q. let d = does_one h.whole p q in (d.1, first d.0);
  -- mail
  mail_receive = λ κs a z z' ws ws' h p q. let d = does_one h.whole p q in (d.1, first d.0);
  mail_send = λ κs a z z' ws ws' h p q. let d = does_one h.whole p q in (d.1, first d.0);
  mail_send_from_interrupt = λ κs a z z' ws ws' h p q. let d = does_one h.whole p q in (d.1, first d.0);
  -- semaphores
  semaphores_abort = λ κs a z z' ws ws' h p q. let d = does_one h.whole p q in (d.1, first d.0);
  semaphores_drop_semaphore = λ κs a z z' ws ws' h p q. let d = does_one h.whole p q in (d.1, first d.0);
  semaphores_make = λ κs a z z' ws ws' h p q. let d = does_one h.whole p q in (d.1, first d.0);
  semaphores_pend = λ κs a z z' ws ws' h p q. let d = does_one h.whole p q in (d.1, first d.0);
  semaphores_post = λ κs a z z' ws ws' h p q. let d = does_one h.whole p q in (d.1, first d.0);
  semaphores_post_from_interrupt = λ κs a z z' ws ws' h p q. let d = does_one h.whole p q in (d.1, first d.0);
  -- time
  time_lock = λ κs a z z' ws ws' h p q. let d = does_one h.whole p q in (d.1, first d.0);
  time_outcome = λ κs a z z' ws ws' h p q. ((does_one h.whole p q).1, refl);
  time_tick = λ κs a z z' ws ws' h p q. let d = does_one h.whole p q in (d.1, first d.0);
  time_unlock = λ κs a z z' ws ws' h p q. let d = does_one h.whole p q in (d.1, first d.0);
  -- sleep
  sleep_leap = λ κs a z z' ws ws' h p q.
      let held = whole_holds h.0.whole in
      let far = (p.0 _ held).0 ∙ sym (q.0 _ held).0 in
      let rounds = (p.0 _ held).1 ∙ sym (q.0 _ held).1 in
      (λ j. record { far = far j; rounds = rounds j }, first (becomes_one h.0.whole p.1 q.1));
  sleep_nearest = λ κs a z z' ws ws' h p q. ((does_one h.whole p q).1, refl);
  sleep_ticks = λ κs a z z' ws ws' h p q. let d = does_one h.whole p q in (d.1, first d.0);
  -- request
  request_decode = λ κs a z z' ws ws' h p q. (p ∙ sym q, refl);
  request_request_of = λ κs a z z' ws ws' h p q. (p ∙ sym q, refl);
  -- answer
  answer_code = λ κs a z z' ws ws' h p q. (p ∙ sym q, refl);
  answer_put_answer = λ κs a z z' ws ws' h p q. (refl, first (p ∙ sym q));
  answer_value = λ κs a z z' ws ws' h p q. (p ∙ sym q, refl);
  -- kernel
  kernel_speltmallet_door = λ κs a z z' ws ws' h p q. (p.0 ∙ sym q.0, λ j. ((p.1.0 ∙ sym q.1.0) j, (ws.1.0, ((p.1.1 ∙ sym q.1.1) j, ws.1.1.1))));
  -- reader
  reader_read_from = λ κs a z z' ws ws' h p q. (p ∙ sym q, refl);
  -- buffer
  buffer_as_slice = λ N f κs a z z' ws ws' h p q. (p ∙ sym q, refl);
  buffer_clear = λ N f κs a z z' ws ws' h p q. (refl, first (p ∙ sym q));
  buffer_drop_front = λ N f κs a z z' ws ws' h p q. (refl, first (p ∙ sym q));
  buffer_extend = λ N f κs a z z' ws ws' h p q. (refl, first (p ∙ sym q));
  buffer_len = λ N f κs a z z' ws ws' h p q. (p.0 ∙ sym q.0, refl);
  buffer_new = λ N f κs a z z' ws ws' h p q. (p ∙ sym q, refl);
  buffer_place = same_place;
  buffer_push = λ N f κs a z z' ws ws' h p q. (refl, first (p ∙ sym q));
  -- text
  text_put_field = λ N f κs a z z' ws ws' h p q. (refl, first (p ∙ sym q));
  text_put_line = λ N f κs a z z' ws ws' h p q. (refl, first (p.0 ∙ sym q.0));
  text_put_number = λ N f κs a z z' ws ws' h p q. (refl, first (p ∙ sym q));
  text_put_short = λ κs a z z' ws ws' h p q. let d = puts_tight p.0 q.0 in (d.1, first d.0);
  text_put_short_line = λ N f κs a z z' ws ws' h p q. (refl, first (p.0 ∙ sym q.0));
  text_put_signed = λ N f κs a z z' ws ws' h p q. (refl, first (p ∙ sym q));
  -- writer
  writer_put_refusal = λ N f κs a z z' ws ws' h p q. (refl, λ j. (ws.0, (ws.1.0, ((p.0 ∙ sym q.0) j, ws.1.1.1))));
  writer_refuse = λ κs a z z' ws ws' h p q. let d = puts_tight p.0 q.0 in (d.1, λ j. (ws.0, (ws.1.0, (ws.1.1.0, (d.0 j, ws.1.1.1.1)))));
  writer_turn = λ κs a z z' ws ws' h p q. let d = puts_tight p.1.1.1.1.1.0 q.1.1.1.1.1.0 in (
    λ j. record {
      number = (p.0 ∙ sym q.0) j;
      held = (p.1.1.1.0 ∙ sym q.1.1.1.0) j;
      next = d.1 j;
      stopped = (p.1.1.0 ∙ sym q.1.1.0) j;
    },
    λ j. (ws.0, (ws.1.0, ((p.1.1.1.1.0 ∙ sym q.1.1.1.1.0) j, (ws.1.1.1.0, (d.0 j, ws.1.1.1.1.1))))),
  );
  writer_turn_part = λ N M f g κs a z z' ws ws' h p q. (
    same_result z z' (p.0 ∙ sym q.0) (p.1.1.0 ∙ sym q.1.1.0),
    λ j. (ws.0, (ws.1.0, ((p.1.1.1.0 ∙ sym q.1.1.1.0) j, ((p.1.1.1.1.0 ∙ sym q.1.1.1.1.0) j, ws.1.1.1.1)))),
  );
  -- replay
  replay_put_end = λ N f κs a z z' ws ws' h p q. (refl, λ j. (ws.0, ((p.0 ∙ sym q.0) j, ws.1.1)));
  replay_finish = λ κs a z z' ws ws' h p q. let d = puts_tight p.0 q.0 in (d.1, λ j. (ws.0, (d.0 j, ws.1.1)));
  replay_fresh = λ κs a z z' ws ws' h p q. (p ∙ sym q, refl);
  replay_serve = λ κs a z z' ws ws' h p q. let d = puts_tight p.0.lines q.0.lines in (
    λ j. record { number = (p.1.0 ∙ sym q.1.0) j; held = (p.1.1.0 ∙ sym q.1.1.0) j; next = d.1 j },
    λ j. ((p.0.table ∙ sym q.0.table) j, (ws.1.0, ((p.1.1.1 ∙ sym q.1.1.1) j, (ws.1.1.1.0, (d.0 j, ws.1.1.1.1.1))))),
  );
  replay_serve_part = λ N M f g κs a z z' ws ws' h p q. (
    p.1.0 ∙ sym q.1.0,
    λ j. ((p.0.table ∙ sym q.0.table) j, (ws.1.0, ((p.1.1 ∙ sym q.1.1) j, ((p.0.lines ∙ sym q.0.lines) j, ws.1.1.1.1)))),
  );
  -- accounts
  accounts_serve = λ κs a z z' ws ws' h p q. (
    λ j. record { number = (p.0.0 ∙ sym q.0.0) j; held = (p.0.1 ∙ sym q.0.1) j },
    λ j. ((p.1.0 ∙ sym q.1.0) j, ((p.1.1.0 ∙ sym q.1.1.0) j, (ws.1.1.0, ((p.1.1.1 ∙ sym q.1.1.1) j, ws.1.1.1.1)))),
  );
  accounts_serve_part = λ N f κs a z z' ws ws' h p q. (
    p.0 ∙ sym q.0,
    λ j. ((p.1.0 ∙ sym q.1.0) j, ((p.1.1.0 ∙ sym q.1.1.0) j, (ws.1.1.0, ((p.1.1.1 ∙ sym q.1.1.1) j, ws.1.1.1.1)))),
  );
  -- lags
  lags_put_lanes = λ N f κs a z z' ws ws' h p q. (refl, λ j. (ws.0, (ws.1.0, (ws.1.1.0, ((p.0 ∙ sym q.0) j, ws.1.1.1.1)))));
  lags_put_report = λ κs a z z' ws ws' h p q. let d = puts_tight p.0 q.0 in (d.1, λ j. (ws.0, (ws.1.0, (ws.1.1.0, (d.0 j, ws.1.1.1.1)))));
}
