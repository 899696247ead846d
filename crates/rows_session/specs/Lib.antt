pub mod SecondDisplay
