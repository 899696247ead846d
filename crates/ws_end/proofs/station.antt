pub mod StationSteps
