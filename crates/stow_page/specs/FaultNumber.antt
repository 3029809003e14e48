-- The numbers by which a page's faults are told.
use Rattle.std.specs.Prelude.{ℕ}
use Rattle.stow_page.specs.declared.page_fault.PageFault.{PageFault}
use Rattle.stow_page.specs.declared.page_fault.PageFault.TheVariants as fault

abbrev pub fault_number : PageFault → ℕ
fault_number fault.FormatByte = 1
fault_number fault.Truncated = 2
fault_number fault.Order = 3
fault_number fault.LengthOrField = 4
fault_number fault.Memory = 5
