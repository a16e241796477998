-- Where a run of the program `run` stands.
use Rattle.std.specs.Prelude.{zero, suc, Bool, cond, ℤ, pos, negsuc, replicate}
use Rattle.model.specs.declared.Refusal.TheVariants as refusal
use Rattle.model.specs.declared.State.{State}
use Rattle.model.specs.Answers.{starved_byte}
use Rattle.model_sheet.specs.Arriving.{opened, new_line}
use Rattle.program_stages.specs.declared.Stage.{Stage}
use Rattle.program_stages.specs.declared.Stage.TheVariants as stage
use Rattle.program_stages.specs.Stages.{wants_by}
use Rattle.program_jobs.specs.declared.Job.{Job}

-- Before the first character: counters "are all 0 when fresh".
abbrev pub fresh : State
fresh = record { passed = replicate 32 (record { 0 = 0 }); fired = record { 0 = 0 } }

abbrev pub begun : Job
begun = record { stage = stage.Sheet; arriving = opened; state = fresh; clocks = 0; line = new_line; from = 0; count = 0 }

-- The job with another stage.
abbrev pub staged : Job → Stage → Job
staged j s =
    record {
      stage = s;
      arriving = j.arriving;
      state = j.state;
      clocks = j.clocks;
      line = j.line;
      from = j.from;
      count = j.count;
    }

-- At the end of the input: a line that is open lacks its LF; a sheet lacks lines; a run that wants cells is starved.
unfoldable pub closed_by : Stage → Job → Job
closed_by stage.Sheet j = staged j (stage.Refusing (cond j.arriving.begun refusal.Malformed refusal.Misplaced))
closed_by stage.Cells j = staged j (cond j.line.begun (stage.Refusing refusal.Malformed) (stage.Ending starved_byte))
closed_by stage.Clocks j = j
closed_by (stage.Ending way) j = j
closed_by (stage.Refusing x) j = j
closed_by stage.Over j = j

unfoldable pub closed : Job → Job
closed j = closed_by j.stage j

-- After a read, by its answer: how many characters it gave, none at the end of the input, or -1 where it failed, at which the
-- program is over, without a last line.
unfoldable pub after_read : ℤ → Job → Job
after_read (pos zero) j = closed j
after_read (pos (suc n)) j = j
after_read (negsuc n) j = staged j stage.Over

-- Nothing is left to do without more input.
unfoldable pub wants_input : Job → Bool
wants_input j = wants_by j.stage j.line.verdict
