-- Of each public function on tables, marks, ends, messages and stores, and of each call of the boundary: its contract determines it.
use Rattle.tables.proofs.offsets
use Rattle.tables.proofs.rising
use Rattle.tables.proofs.rows
use Rattle.tables.proofs.shape
use Rattle.tables.proofs.values
use Rattle.semijoin.proofs.local
use Rattle.semijoin.proofs.marks
use Rattle.semijoin.proofs.run
use Rattle.ends.proofs.ends
use Rattle.ends.proofs.messages
use Rattle.ends.proofs.reducing
use Rattle.station.proofs.making
use Rattle.station.proofs.opening
use Rattle.station.proofs.receiving
use Rattle.answerer.proofs.answer
use Rattle.answerer.proofs.assembly
use Rattle.boundary.proofs.given
use Rattle.boundary.proofs.planning
use Rattle.boundary.proofs.running
use Rattle.boundary.proofs.stations
use mathlib.Core.Path.{refl}
use Rattle.demands.proofs.Unique.{Determined, same}

-- ---- tables

pub count_in_one : Determined offsets.count_in.Kinds.ps offsets.count_in.Kinds.r offsets.count_in.Reads.Learnt
count_in_one κs a y z u v p q = (same p q, refl)

pub extent_of_one : Determined offsets.extent_of.Kinds.ps offsets.extent_of.Kinds.r offsets.extent_of.Reads.Learnt
extent_of_one κs a y z u v p q = (same p q, refl)

pub row_count_one : Determined offsets.row_count.Kinds.ps offsets.row_count.Kinds.r offsets.row_count.Reads.Learnt
row_count_one κs a y z u v p q = (same p q, refl)

pub is_rising_one : Determined rising.is_rising.Kinds.ps rising.is_rising.Kinds.r rising.is_rising.Reads.Learnt
is_rising_one κs a y z u v p q = (same p q, refl)

pub word_at_one : Determined rows.word_at.Kinds.ps rows.word_at.Kinds.r rows.word_at.Reads.Learnt
word_at_one κs a y z u v p q = (same p q, refl)

pub is_kept_one : Determined rows.is_kept.Kinds.ps rows.is_kept.Kinds.r rows.is_kept.Reads.Learnt
is_kept_one κs a y z u v p q = (same p q, refl)

pub is_shaped_one : Determined shape.is_shaped.Kinds.ps shape.is_shaped.Kinds.r shape.is_shaped.Reads.Learnt
is_shaped_one κs a y z u v p q = (same p q, refl)

pub judge_marks_one : Determined shape.judge_marks.Kinds.ps shape.judge_marks.Kinds.r shape.judge_marks.Reads.Learnt
judge_marks_one κs a y z u v p q = (same p q, refl)

pub judge_column_one : Determined shape.judge_column.Kinds.ps shape.judge_column.Kinds.r shape.judge_column.Reads.Learnt
judge_column_one κs a y z u v p q = (same p q, refl)

pub values_into_one : Determined values.values_into.Kinds.ps values.values_into.Kinds.r values.values_into.Reads.Learnt
values_into_one κs a y z u v p q = (same p.0 q.0, λ i. (tt, (tt, (tt, (tt, (tt, (same p.1 q.1 i, tt)))))))

pub occurs_in_one : Determined values.occurs_in.Kinds.ps values.occurs_in.Kinds.r values.occurs_in.Reads.Learnt
occurs_in_one κs a y z u v p q = (same p q, refl)

-- ---- semijoin

pub open_marks_one : Determined local.open_marks.Kinds.ps local.open_marks.Kinds.r local.open_marks.Reads.Learnt
open_marks_one κs a y z u v p q = (same p.0 q.0, λ i. (tt, (tt, (tt, (same p.1 q.1 i, tt)))))

pub reduce_by_one : Determined marks.reduce_by.Kinds.ps marks.reduce_by.Kinds.r marks.reduce_by.Reads.Learnt
reduce_by_one κs a y z u v p q = (same p.0 q.0, λ i. (tt, (tt, (tt, (tt, (same p.1 q.1 i, tt))))))

pub run_in_one_place_one : Determined run.run_in_one_place.Kinds.ps run.run_in_one_place.Kinds.r run.run_in_one_place.Reads.Learnt
run_in_one_place_one κs a y z u v p q = (same p.0 q.0, λ i. (tt, (tt, (tt, (same p.1 q.1 i, tt)))))

-- ---- ends

pub start_of_one : Determined ends.start_of.Kinds.ps ends.start_of.Kinds.r ends.start_of.Reads.Learnt
start_of_one κs a y z u v p q = (same p q, refl)

pub no_end_one : Determined ends.no_end.Kinds.ps ends.no_end.Kinds.r ends.no_end.Reads.Learnt
no_end_one κs a y z u v p q = (same p q, refl)

pub sound_end_one : Determined ends.sound_end.Kinds.ps ends.sound_end.Kinds.r ends.sound_end.Reads.Learnt
sound_end_one κs a y z u v p q = (same p q, refl)

pub usable_end_one : Determined ends.usable_end.Kinds.ps ends.usable_end.Kinds.r ends.usable_end.Reads.Learnt
usable_end_one κs a y z u v p q = (same p q, refl)

pub applied_of_one : Determined ends.applied_of.Kinds.ps ends.applied_of.Kinds.r ends.applied_of.Reads.Learnt
applied_of_one κs a y z u v p q = (same p q, refl)

pub speaks_of_one : Determined messages.speaks_of.Kinds.ps messages.speaks_of.Kinds.r messages.speaks_of.Reads.Learnt
speaks_of_one κs a y z u v p q = (same p q, refl)

pub is_counted_one : Determined messages.is_counted.Kinds.ps messages.is_counted.Kinds.r messages.is_counted.Reads.Learnt
is_counted_one κs a y z u v p q = (same p q, refl)

pub put_front_one : Determined messages.put_front.Kinds.ps messages.put_front.Kinds.r messages.put_front.Reads.Learnt
put_front_one κs a y z u v p q = (refl, λ i. (same p q i, (tt, (tt, (tt, tt)))))

pub step_of_one : Determined reducing.step_of.Kinds.ps reducing.step_of.Kinds.r reducing.step_of.Reads.Learnt
step_of_one κs a y z u v p q = (same p q, refl)

pub step_count_one : Determined reducing.step_count.Kinds.ps reducing.step_count.Kinds.r reducing.step_count.Reads.Learnt
step_count_one κs a y z u v p q = (same p q, refl)

pub steps_before_one : Determined reducing.steps_before.Kinds.ps reducing.steps_before.Kinds.r reducing.steps_before.Reads.Learnt
steps_before_one κs a y z u v p q = (same p q, refl)

pub missing_of_one : Determined reducing.missing_of.Kinds.ps reducing.missing_of.Kinds.r reducing.missing_of.Reads.Learnt
missing_of_one κs a y z u v p q = (same p q, refl)

-- ---- station

pub make_values_one : Determined making.make_values.Kinds.ps making.make_values.Kinds.r making.make_values.Reads.Learnt
make_values_one κs a y z u v p q = (same p.0 q.0, λ i. (tt, (tt, (tt, (tt, (same p.1 q.1 i, tt))))))

pub make_rows_one : Determined making.make_rows.Kinds.ps making.make_rows.Kinds.r making.make_rows.Reads.Learnt
make_rows_one κs a y z u v p q = (same p.0 q.0, λ i. (tt, (tt, (tt, (tt, (same p.1 q.1 i, tt))))))

pub open_one : Determined opening.open.Kinds.ps opening.open.Kinds.r opening.open.Reads.Learnt
open_one κs a y z u v p q = (same p.0 q.0, λ i. (tt, (tt, (tt, (tt, (tt, (same p.1 q.1 i, tt)))))))

pub receive_one : Determined receiving.receive.Kinds.ps receiving.receive.Kinds.r receiving.receive.Reads.Learnt
receive_one κs a y z u v p q = (same p.0 q.0, λ i. (same p.1 q.1 i, (tt, (same p.2 q.2 i, (same p.3 q.3 i, (tt, tt))))))

-- ---- answerer

pub answer_one : Determined answer.answer.Kinds.ps answer.answer.Kinds.r answer.answer.Reads.Learnt
answer_one κs a y z u v p q = (same p.0 q.0, λ i. (tt, (tt, (same p.1 q.1 i, tt))))

pub answer_at_end_one : Determined assembly.answer_at_end.Kinds.ps assembly.answer_at_end.Kinds.r assembly.answer_at_end.Reads.Learnt
answer_at_end_one κs a y z u v p q = (same p.0 q.0, λ i. (tt, (tt, (same p.1 q.1 i, tt))))

-- ---- boundary

pub legestran_read_envelope_one : Determined given.legestran_read_envelope.Kinds.ps given.legestran_read_envelope.Kinds.r given.legestran_read_envelope.Reads.Learnt
legestran_read_envelope_one κs a y z u v p q = (same p q, refl)

pub legestran_read_program_one : Determined given.legestran_read_program.Kinds.ps given.legestran_read_program.Kinds.r given.legestran_read_program.Reads.Learnt
legestran_read_program_one κs a y z u v p q = (same p q, refl)

pub legestran_plan_one : Determined planning.legestran_plan.Kinds.ps planning.legestran_plan.Kinds.r planning.legestran_plan.Reads.Learnt
legestran_plan_one κs a y z u v p q = (same p.0 q.0, λ i. (tt, (same p.1 q.1 i, tt)))

pub legestran_estimate_one : Determined planning.legestran_estimate.Kinds.ps planning.legestran_estimate.Kinds.r planning.legestran_estimate.Reads.Learnt
legestran_estimate_one κs a y z u v p q = (same p.0 q.0, λ i. (tt, (tt, (same p.1 q.1 i, tt))))

pub legestran_run_in_one_place_one : Determined running.legestran_run_in_one_place.Kinds.ps running.legestran_run_in_one_place.Kinds.r running.legestran_run_in_one_place.Reads.Learnt
legestran_run_in_one_place_one κs a y z u v p q = (same p.0 q.0, λ i. (tt, (tt, (tt, (same p.1 q.1 i, tt)))))

pub legestran_answer_one : Determined running.legestran_answer.Kinds.ps running.legestran_answer.Kinds.r running.legestran_answer.Reads.Learnt
legestran_answer_one κs a y z u v p q = (same p.0 q.0, λ i. (tt, (tt, (same p.1 q.1 i, tt))))

pub legestran_open_one : Determined stations.legestran_open.Kinds.ps stations.legestran_open.Kinds.r stations.legestran_open.Reads.Learnt
legestran_open_one κs a y z u v p q = (same p.0 q.0, λ i. (tt, (tt, (tt, (tt, (tt, (same p.1 q.1 i, (same p.2 q.2 i, tt))))))))

pub legestran_make_values_one : Determined stations.legestran_make_values.Kinds.ps stations.legestran_make_values.Kinds.r stations.legestran_make_values.Reads.Learnt
legestran_make_values_one κs a y z u v p q = (same p.0 q.0, λ i. (tt, (tt, (tt, (tt, (tt, (tt, (same p.1 q.1 i, tt))))))))

pub legestran_make_rows_one : Determined stations.legestran_make_rows.Kinds.ps stations.legestran_make_rows.Kinds.r stations.legestran_make_rows.Reads.Learnt
legestran_make_rows_one κs a y z u v p q = (same p.0 q.0, λ i. (tt, (tt, (tt, (tt, (tt, (tt, (same p.1 q.1 i, tt))))))))

pub legestran_receive_one : Determined stations.legestran_receive.Kinds.ps stations.legestran_receive.Kinds.r stations.legestran_receive.Reads.Learnt
legestran_receive_one κs a y z u v p q = (same p.0 q.0, λ i. (tt, (tt, (same p.1 q.1 i, (tt, (same p.2 q.2 i, (same p.3 q.3 i, (tt, tt))))))))

pub legestran_answer_at_end_one : Determined stations.legestran_answer_at_end.Kinds.ps stations.legestran_answer_at_end.Kinds.r stations.legestran_answer_at_end.Reads.Learnt
legestran_answer_at_end_one κs a y z u v p q = (same p.0 q.0, λ i. (tt, (tt, (tt, (tt, (same p.1 q.1 i, tt))))))
