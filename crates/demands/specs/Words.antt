-- The words that the statements are made of, floor by floor, each behind the file that defines it.
pub use mathlib.Core.{List.Memᴰ as List-as-Memᴰ}
pub use Rattle.ground.specs.{Tests.pick, Lists.Every, Lists.filter, Lists.combinations, Lists.sum, Lists.below, Bytes.Bytes, Outcome.Outcome, Outcome.leaves, Outcome.value_of}
pub use Rattle.ground.specs.{Outcome.Outcome.good, Outcome.Outcome.bad, Outcome.taken_of, Outcome.verdict_of, Refusing.judgement, Refusals.number_of, Refusals.refusal}
pub use Rattle.ground.specs.{declared.refusals.Refusal.Refusal, declared.refusals.Reason.Reason, declared.refusals.Reason.TheVariants.Waiting}
pub use Rattle.fields.specs.{Puts.written_from, Puts.written_in}
pub use Rattle.entries.specs.{declared.places.Place.Place}
pub use Rattle.contents.specs.{Parts.relation_count, Parts.clauses_of, Parts.targets_of, Sites.site_of, Sites.is_at, declared.envelope.Envelope.Envelope}
pub use Rattle.envelopes.specs.{Envelope.read_envelope, Envelope.check_envelope, Envelope.envelope_bytes, Envelope.write_envelope_of, Rules.Within}
pub use Rattle.envelopes.specs.{Rules.tidy, Fits.Fits}
pub use Rattle.paths.specs.{Paths.column, Paths.PathBetween, Paths.edges, Steps.is_place, Steps.legal, Steps.legal_steps, Steps.legality_of, Implied.selections_read}
pub use Rattle.paths.specs.{Implied.equalities_read, Meaning.Row, Meaning.meets_all, Meaning.target_row, Meaning.tables_of, Meaning.answer_rows, Meaning.words_of_rows}
pub use Rattle.paths.specs.{Meaning.answer_words, declared.steps.Step.Step}
pub use Rattle.papers.specs.{Programs.steps_of, Programs.read_program, Programs.check_program, Programs.program_bytes, Programs.write_program_of}
pub use Rattle.papers.specs.{Programs.Acceptable, Programs.tidy_program, Checks.papers_of, Fits.ProgramFits, declared.programs.Program.Program}
pub use Rattle.papers.specs.{declared.checks.Papers.Papers}
pub use Rattle.estimates.specs.{Profile.local_profile, Costs.plain_costs, Costs.assembly_at, Kind.after_all as profile_after, Estimate.kind_of, Estimate.lines_of}
pub use Rattle.estimates.specs.{Estimate.costs_in, Estimate.estimate_of, declared.lines.Estimate.Estimate}
pub use Rattle.planner.specs.{Plan.plan_of, Promise.PlanKept}
pub use Rattle.tables.specs.{Offsets.count_in, Offsets.row_count, Shape.shaped, Shape.marks_tests, Shape.column_tests, Values.values_of, Values.values_outcome}
pub use Rattle.tables.specs.{Rows.row_of, Rows.word_of, Rows.kept_at, Rows.SameRows, Rows.answer_kept}
pub use Rattle.semijoin.specs.{Local.passes, Local.Passing, Local.opened_in, Local.open_outcome, Marks.reduce_outcome, Run.stepped, Run.stepped_all, Run.run_marks}
pub use Rattle.semijoin.specs.{Run.run_outcome, Promise.FewerRows, Promise.FewerValues, Promise.Covers}
pub use Rattle.semijoin.specs.{Promise.Holds}
pub use Rattle.ends.specs.{Reducing.step_count, Reducing.step_of, Reducing.steps_before, Ends.Marked, Ends.no_end, Ends.applied_of, Ends.has_arrived, Ends.sound_end, Ends.usable}
pub use Rattle.ends.specs.{Messages.value_message, Messages.row_message, Messages.second_of, declared.ends.End.End}
pub use Rattle.station.specs.{Opening.open_of, Opening.opened_marks, Making.make_values_of, Making.make_rows_of, Making.sent_rows, Receiving.Held}
pub use Rattle.station.specs.{Receiving.receive_of, Receiving.received_marks, Receiving.received_store}
pub use Rattle.answerer.specs.{Answer.answer_outcome, Stores.held_by, Stores.SoundRows, Stores.OneOfEach, Assembly.assembled_outcome}
pub use Rattle.boundary.specs.{Given.papers_in, Given.end_in, Planning.plan_from, Planning.estimate_from, Running.run_from, Running.answer_from, Stations.open_from}
pub use Rattle.boundary.specs.{Stations.opened_state, Stations.make_values_from, Stations.make_rows_from, Stations.receive_from, Stations.received_state}
pub use Rattle.boundary.specs.{Stations.answer_end_from}
