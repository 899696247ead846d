pub mod CarryOns
pub mod ConnectRuns
pub mod Hearings
pub mod LiveOutput
pub mod LiveRuns
pub mod StrokeRuns
