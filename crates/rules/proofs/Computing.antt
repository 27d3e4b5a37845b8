-- The definitions that a run through the door computes with, in one list: to unfold `behind_the_door` is to unfold them all.
-- Assumes nothing.
use Rattle.rules.specs.Lines.{leave, join, move, top_below, top, settle, bits_below, ready_word}
use Rattle.rules.specs.Table.{wait_of, outcome_of, thread_row, thread_of, sem_row, sem_of, kernel_row, flat, encode_with, encode, rows, decode}
use Rattle.rules.specs.Test.{place_ok, free_ok, used_ok, thread_ok, sem_ok, init_ok, kernel_ok, sound, sound_table}
use Rattle.rules.specs.Answers.{area_of}
use Rattle.rules.specs.Requests.{request_of, decode_request}
use Rattle.rules.specs.Waiting.{end_wait, serve, block, must_wait}
use Rattle.rules.specs.Threads.{do_yield, do_create, deleted, do_delete, do_suspend, do_resume, do_delay, break_off, do_cancel, do_set_priority, do_set_turn}
use Rattle.rules.specs.Mail.{delivered, do_send, do_send_from_interrupt, emptied, do_receive}
use Rattle.rules.specs.Semaphores.{do_make, do_drop, do_pend, do_abort, posted, do_post, do_post_from_interrupt}
use Rattle.rules.specs.Time.{do_lock, do_unlock, charge, charged, count_down, timeouts, do_tick, do_outcome}
use Rattle.rules.specs.Sleep.{ticks, do_ticks, nearest, do_nearest}
use Rattle.rules.specs.Steps.{step}
use Rattle.rules.specs.Door.{serve_decoded, door, fresh, fresh_table, table_after}

unfoldable pub behind_the_door : Unit {0}
unfolding leave join move top_below top settle bits_below ready_word wait_of outcome_of thread_row thread_of sem_row sem_of kernel_row flat encode_with encode rows decode place_ok free_ok used_ok thread_ok sem_ok init_ok kernel_ok sound sound_table area_of request_of decode_request end_wait serve block must_wait do_yield do_create deleted do_delete do_suspend do_resume do_delay break_off do_cancel do_set_priority do_set_turn delivered do_send do_send_from_interrupt emptied do_receive do_make do_drop do_pend do_abort posted do_post do_post_from_interrupt do_lock do_unlock charge charged count_down timeouts do_tick do_outcome ticks do_ticks nearest do_nearest step serve_decoded door fresh fresh_table table_after
behind_the_door = tt
