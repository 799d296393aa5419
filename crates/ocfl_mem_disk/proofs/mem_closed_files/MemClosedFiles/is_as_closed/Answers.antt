use Rattle.std.proofs.Common.{◌∙◌, ap, false, option_map, string_bytes, true}
use Rattle.std.specs.List.{find}
use Rattle.ocfl_state.specs.Checkpoint.{Checkpoint}
use Rattle.ocfl_state.specs.Calls.{bytes_of}
use Rattle.ocfl_kept.specs.FilePaths.{report_path}
use Rattle.ocfl_part_folders.specs.Folder.{first_of as first_text}
use Rattle.ocfl_closing.specs.Calls.{report_in}
use Rattle.ocfl_mem_disk.specs.{Closings.{files_of, is_of}, Paths.{bytes_at}}
use Rattle.ocfl_mem_disk.proofs.Closing.{by_mark, report_bytes}
use Rattle.ocfl_mem_disk.proofs.mem_closed_files.MemClosedFiles.is_as_closed.Goals as goal

pub returns : goal.returns
returns c = λ short.
    by_mark (find (is_of c.args.cycle) c.args.self.now.kept.items) c.in-Some.kept.now c.in-Some-checkpoint.checkpoint c.checkpoint.inside.report (report_in (files_of c.args.self.now) c.args.cycle) c.has_mark.result
    (c.in-Some.ensures ∙ ap (find (is_of c.args.cycle)) c.as_slice.ensures.value) c.in-Some-checkpoint.is (ap (λ (k : Checkpoint). k.report) c.checkpoint.view_is)
    (c.has_mark.ensures (report_in (files_of c.args.self.now) c.args.cycle)
    (report_bytes (bytes_at c.args.self.now.files.items (report_path (string_bytes c.args.self.now.path) c.args.cycle true)) (bytes_at c.args.self.now.files.items (report_path (string_bytes c.args.self.now.path) c.args.cycle false)) (option_map bytes_of c.in_ok-report.report)
    (c.in_ok-report.ensures ∙ ap (λ f. first_text (bytes_at f (report_path c.as_str.result.now c.args.cycle true)) (bytes_at f (report_path c.as_str.result.now c.args.cycle false))) c.as_slice-2.ensures.value
    ∙ ap (λ p. first_text (bytes_at c.args.self.now.files.items (report_path p c.args.cycle true)) (bytes_at c.args.self.now.files.items (report_path p c.args.cycle false))) c.as_str.ensures.value)) short)
